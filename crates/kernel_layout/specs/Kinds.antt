-- What a kernel event is, by its name and its fields. One that lacks a field in its form and range is another event, and incomplete (this project's own).
use Rattle.std.specs.Prelude.{ℕ, ℤ, pos, neg_ℤ, Bool, true, false, List, codes, Option, Some, None, slice_get, unwrap_or, option_map}
use Rattle.type_table.specs.Table.{Table}
use Rattle.type_table.specs.TraceMetas.{TraceMetaModel}
use Rattle.trace_types.specs.declared.event.KernelEvent.{KernelEvent}
use Rattle.trace_types.specs.declared.event.KernelEvent.TheVariants as kind
use Rattle.trace_types.specs.declared.segment.SegKey.{SegKey}
use Rattle.ctf_fields.specs.declared.field.Field.{Field}
use Rattle.ctf_fields.specs.declared.raw.RawEvent.{RawEvent}
use Rattle.trace_types.specs.declared.woken.Woken.{Woken}
use Rattle.trace_types.specs.declared.request.Request.{Request}
use Rattle.trace_types.specs.declared.event_kind.EventKind.{EventKind}
use Rattle.trace_types.specs.declared.event_kind.EventKind.TheVariants as event_kind
use Rattle.kernel_layout.specs.Tracepoints.{kinds_of}
use Rattle.kernel_layout.specs.Skips.{kind_at}
use Rattle.kernel_layout.specs.Needed.{and_then, address, between, comm, number, of_16, of_32, of_64, small}

abbrev pub priority : Table → Field → List ℕ → Option ℤ
priority t f name = between (neg_ℤ (pos 2147483648)) (pos 2147483647) (number t f name)

abbrev pub state : Table → Field → List ℕ → Option ℤ
state t f name = between (neg_ℤ (pos 9223372036854775808)) (pos 9223372036854775807) (number t f name)

abbrev pub switch : Table → Field → Option KernelEvent
switch t f =
    and_then (state t f (codes "prev_state")) (λ s.
    and_then (small t f (codes "prev_tid")) (λ pt.
    and_then (small t f (codes "next_tid")) (λ nt.
    and_then (priority t f (codes "prev_prio")) (λ pp.
    and_then (priority t f (codes "next_prio")) (λ np.
    and_then (comm t f (codes "prev_comm")) (λ pc.
    and_then (comm t f (codes "next_comm")) (λ nc.
    Some (kind.Switch s pt nt pp np pc nc))))))))

-- the fields of a wakeup of any of its three kinds
abbrev pub wakeup_fields : Table → Field → Option Woken
wakeup_fields t f =
    and_then (small t f (codes "tid")) (λ tid.
    and_then (comm t f (codes "comm")) (λ c.
    and_then (priority t f (codes "prio")) (λ p.
    and_then (small t f (codes "target_cpu")) (λ cpu.
    Some (record { tid = tid; comm = c; prio = p; target_cpu = cpu })))))

abbrev pub fork : Table → Field → Option KernelEvent
fork t f =
    and_then (small t f (codes "parent_tid")) (λ parent.
    and_then (small t f (codes "child_tid")) (λ child.
    and_then (comm t f (codes "child_comm")) (λ c.
    Some (kind.Fork parent child c))))

abbrev pub migrate : Table → Field → Option KernelEvent
migrate t f = and_then (small t f (codes "tid")) (λ tid. and_then (small t f (codes "dest_cpu")) (λ cpu. Some (kind.Migrate tid cpu)))

abbrev pub process : Table → Field → Option KernelEvent
process t f =
    and_then (small t f (codes "tid")) (λ tid.
    and_then (small t f (codes "ppid")) (λ parent.
    and_then (comm t f (codes "name")) (λ c.
    and_then (small t f (codes "status")) (λ status.
    Some (kind.Process tid parent c status)))))

-- the ports that it goes from and to
abbrev pub ports : Table → Field → Option (ℕ × ℕ)
ports t f = and_then (of_16 t f (codes "source_port")) (λ source. and_then (of_16 t f (codes "dest_port")) (λ dest. Some (source, dest)))

-- what tells a segment from others
abbrev pub segment : Table → Field → Option SegKey
segment t f =
    and_then (address t f (codes "saddr")) (λ saddr.
    and_then (address t f (codes "daddr")) (λ daddr.
    and_then (ports t f) (λ p.
    and_then (of_32 t f (codes "seq")) (λ seq.
    and_then (of_32 t f (codes "ack_seq")) (λ ack.
    and_then (of_16 t f (codes "flags")) (λ flags.
    Some (record { saddr = saddr; daddr = daddr; seq = seq; ack_seq = ack; source_port = p.0; dest_port = p.1; flags = flags })))))))

-- a request of a disk
abbrev pub disk_request : Table → Field → Option Request
disk_request t f =
    and_then (of_64 t f (codes "sector")) (λ sector.
    and_then (of_32 t f (codes "dev")) (λ dev.
    and_then (of_32 t f (codes "nr_sector")) (λ count.
    Some (record { sector = sector; dev = dev; nr_sector = count }))))

-- the event of a kind that has one number or a call, a segment or a request; the name is kept of calls and of others
abbrev pub other_event_of : EventKind → ℕ → Table → Field → Option KernelEvent
other_event_of event_kind.Exit name t f = option_map kind.Exit (small t f (codes "tid"))
other_event_of event_kind.Free name t f = option_map kind.Free (small t f (codes "tid"))
other_event_of event_kind.IrqIn name t f = option_map kind.IrqIn (small t f (codes "irq"))
other_event_of event_kind.IrqOut name t f = option_map kind.IrqOut (small t f (codes "irq"))
other_event_of event_kind.SoftIn name t f = option_map kind.SoftIn (small t f (codes "vec"))
other_event_of event_kind.SoftOut name t f = option_map kind.SoftOut (small t f (codes "vec"))
other_event_of event_kind.CallIn name t f = Some (kind.CallIn name)
other_event_of event_kind.CallOut name t f = Some (kind.CallOut name)
other_event_of event_kind.Send name t f = option_map kind.Send (segment t f)
other_event_of event_kind.Receive name t f = option_map kind.Receive (segment t f)
other_event_of event_kind.DiskIssue name t f = option_map (λ r. kind.DiskIssue r.sector r.dev r.nr_sector) (disk_request t f)
other_event_of event_kind.DiskDone name t f = option_map (λ r. kind.DiskDone r.sector r.dev r.nr_sector) (disk_request t f)
other_event_of _ name t f = Some (kind.Other name)

-- the event of a kind, where its fields are there
abbrev pub event_of : EventKind → ℕ → Table → Field → Option KernelEvent
event_of event_kind.Switch name t f = switch t f
event_of event_kind.Wakeup name t f = option_map (λ w. kind.Wakeup w.tid w.comm w.prio w.target_cpu) (wakeup_fields t f)
event_of event_kind.WakeupNew name t f = option_map (λ w. kind.WakeupNew w.tid w.comm w.prio w.target_cpu) (wakeup_fields t f)
event_of event_kind.Waking name t f = option_map (λ w. kind.Waking w.tid w.comm w.prio w.target_cpu) (wakeup_fields t f)
event_of event_kind.Fork name t f = fork t f
event_of event_kind.Migrate name t f = migrate t f
event_of event_kind.Process name t f = process t f
event_of rest name t f = other_event_of rest name t f

-- whether it is incomplete stands beside it
abbrev pub or_other : ℕ → Option KernelEvent → KernelEvent × Bool
or_other name (Some k) = (k, false)
or_other name None = (kind.Other name, true)

-- the number of an event's name
abbrev pub name_of : TraceMetaModel → ℕ → ℕ
name_of meta index = unwrap_or (option_map (λ e. e.1.name) (slice_get meta.declared.events index)) 0

abbrev pub kind_by : TraceMetaModel → ℕ → Field → KernelEvent × Bool
kind_by meta name f = or_other name (event_of (kind_at (kinds_of meta) name) name meta.table f)

abbrev pub kind_of : TraceMetaModel → RawEvent → KernelEvent × Bool
kind_of meta raw = kind_by meta (name_of meta raw.event) raw.fields
