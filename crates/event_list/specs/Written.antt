-- The lines that are written of events, as lines that are read (this project's own).
use Rattle.std.specs.Prelude.{ℕ, List, [], ◌∷◌, map}
use Rattle.std.specs.List.{AllByRecursion}
use Rattle.trace_types.specs.declared.event.Merged.{Merged}
use Rattle.trace_types.specs.declared.event.KernelEvent.{KernelEvent}
use Rattle.trace_types.specs.declared.event.KernelEvent.TheVariants.{Switch, Wakeup, WakeupNew, Waking, Fork, Process, CallIn, CallOut, Other}
use Rattle.event_list.specs.Lines.{AreBytes, name_at}
use Rattle.event_list.specs.Names.{with_number}
use Rattle.event_list.specs.declared.parsed_line.ParsedLine.{ParsedLine}

-- the texts that a kind's line spells: the names of its threads, and that of its event
abbrev pub texts_in : List (List ℕ) → KernelEvent → List (List ℕ)
texts_in names (Switch prev_state prev_tid next_tid prev_prio next_prio prev_comm next_comm) = prev_comm ∷ next_comm ∷ []
texts_in names (Wakeup tid comm prio target_cpu) = comm ∷ []
texts_in names (WakeupNew tid comm prio target_cpu) = comm ∷ []
texts_in names (Waking tid comm prio target_cpu) = comm ∷ []
texts_in names (Fork parent_tid child_tid child_comm) = child_comm ∷ []
texts_in names (Process tid ppid name status) = name ∷ []
texts_in names (CallIn n) = name_at names n ∷ []
texts_in names (CallOut n) = name_at names n ∷ []
texts_in names (Other n) = name_at names n ∷ []
texts_in names kind = []

-- the name that a kind carries; the empty one where it carries none
abbrev pub name_parsed : List (List ℕ) → KernelEvent → List ℕ
name_parsed names (CallIn n) = name_at names n
name_parsed names (CallOut n) = name_at names n
name_parsed names (Other n) = name_at names n
name_parsed names kind = []

-- an event as its line tells it: its name stands in the place of the name's number
abbrev pub parsed_line_of : List (List ℕ) → Merged → ParsedLine
parsed_line_of names m = record { event = record { key = m.key; event = record { time = m.event.time; host = m.event.host; cpu = m.event.cpu; kind = with_number 0 m.event.kind } }; name = name_parsed names m.event.kind }

-- all events, whose hosts have these names
abbrev pub parsed_lines_of : (ℕ → List (List ℕ)) → List Merged → List ParsedLine
parsed_lines_of names ms = map (λ m. parsed_line_of (names m.event.host) m) ms

-- the texts that their lines spell are bytes
abbrev pub SpellBytes : (ℕ → List (List ℕ)) → List Merged → Type 0
SpellBytes names ms = AllByRecursion (λ m. AllByRecursion AreBytes (texts_in (names m.event.host) m.event.kind)) ms
