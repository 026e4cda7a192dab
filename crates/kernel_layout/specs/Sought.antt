-- The names of fields that kinds of events are told by, and which of them the names of a trace count as (the names are those of LTTng's kernel tracer).
use Rattle.std.specs.Prelude.{List, [], ◌∷◌, codes, Option}
use Rattle.std.specs.List.{find}
use Rattle.type_table.specs.Names.{same_name}
use Rattle.type_table.specs.Types.{Text}
use Rattle.kernel_layout.specs.declared.sought.Sought.{Sought}
use Rattle.kernel_layout.specs.declared.sought.Sought.TheVariants as sought

-- the name as it is written
abbrev pub text_of : Sought → Text
text_of sought.Tid = codes "tid"
text_of sought.Irq = codes "irq"
text_of sought.Vec = codes "vec"
text_of sought.Comm = codes "comm"
text_of sought.Prio = codes "prio"
text_of sought.TargetCpu = codes "target_cpu"
text_of sought.PrevState = codes "prev_state"
text_of sought.PrevTid = codes "prev_tid"
text_of sought.NextTid = codes "next_tid"
text_of sought.PrevPrio = codes "prev_prio"
text_of sought.NextPrio = codes "next_prio"
text_of sought.PrevComm = codes "prev_comm"
text_of sought.NextComm = codes "next_comm"
text_of sought.ParentTid = codes "parent_tid"
text_of sought.ChildTid = codes "child_tid"
text_of sought.ChildComm = codes "child_comm"
text_of sought.DestCpu = codes "dest_cpu"
text_of sought.Ppid = codes "ppid"
text_of sought.Name = codes "name"
text_of sought.Status = codes "status"
text_of sought.Sector = codes "sector"
text_of sought.Dev = codes "dev"
text_of sought.NrSector = codes "nr_sector"
text_of sought.Saddr = codes "saddr"
text_of sought.Daddr = codes "daddr"
text_of sought.SourcePort = codes "source_port"
text_of sought.DestPort = codes "dest_port"
text_of sought.Seq = codes "seq"
text_of sought.AckSeq = codes "ack_seq"
text_of sought.Flags = codes "flags"

-- all names that are looked for
abbrev pub all_sought : List Sought
all_sought = sought.Tid ∷ sought.Irq ∷ sought.Vec ∷ sought.Comm ∷ sought.Prio ∷ sought.TargetCpu ∷ sought.PrevState ∷ sought.PrevTid ∷ sought.NextTid ∷ sought.PrevPrio ∷ sought.NextPrio ∷ sought.PrevComm ∷ sought.NextComm ∷ sought.ParentTid ∷ sought.ChildTid ∷ sought.ChildComm ∷ sought.DestCpu ∷ sought.Ppid ∷ sought.Name ∷ sought.Status ∷ sought.Sector ∷ sought.Dev ∷ sought.NrSector ∷ sought.Saddr ∷ sought.Daddr ∷ sought.SourcePort ∷ sought.DestPort ∷ sought.Seq ∷ sought.AckSeq ∷ sought.Flags ∷ []

-- the one that a name counts as
unfoldable pub sought_of : Text → Option Sought
sought_of name = find (λ s. same_name (text_of s) name) all_sought

-- for each name of a trace the one that it counts as, as far as the first empty name
abbrev pub known_of : List Text → List (Option Sought)
known_of [] = []
known_of ([] ∷ names) = []
known_of ((c ∷ name) ∷ names) = sought_of (c ∷ name) ∷ known_of names
