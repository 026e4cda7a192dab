-- A packet whose events are read one by one (the events are those of CTF 1.8, section 6; that they are read so is this project's own).
use Rattle.std.specs.Prelude.{◌≡◌, ◌⊎◌, ℕ, ◌-◌, Bool, List, [], ◌∷◌, Option, None, Some, Result, Ok, Err, if◌then◌else◌, ◌&&◌, not, nat_eq, is_none, option_map, slice_get}
use Rattle.std.specs.Option.{option_and_then}
use Rattle.ctf_fields.specs.declared.raw.RawEvent.{RawEvent}
use Rattle.ctf_fields.specs.declared.field.Field.{Field}
use Rattle.ctf_fields.specs.Fields.{Scopes}
use Rattle.type_table.specs.Table.{Table}
use Rattle.read_plan.specs.Headers.{IsPlanFor, IsReadablePlan}
use Rattle.read_plan.specs.Headers.{header_plan as plan_of}
use Rattle.read_plan.specs.Lone.{IsLone}
use Rattle.read_plan.specs.Placed.{AreFieldsOf, AreKeptOrAt}
use Rattle.read_plan.specs.Singles.{IsReadableSingle, single_number}
use Rattle.read_plan.specs.declared.header.HeaderPlan.{HeaderPlan}
use Rattle.read_plan.specs.declared.single.SingleNumber.{SingleNumber}
use Rattle.packet_decoder.specs.Events.{PacketModel, event_by, events_from, field_or_none}
use Rattle.packet_decoder.specs.PacketHeads.{and_then}
use Rattle.packet_decoder.specs.declared.events.Cursor.{Cursor}
use Rattle.packet_decoder.specs.declared.events.EventHead.{EventHead}
use Rattle.packet_decoder.specs.declared.events.FieldsRead.{FieldsRead}
use Rattle.packet_decoder.specs.declared.events.LastEvent.{LastEvent}
use Rattle.packet_decoder.specs.declared.events.ReadEvent.{ReadEvent}
use Rattle.packet_decoder.specs.declared.events.ToldHead.{ToldHead}
use Rattle.packet_decoder.specs.declared.passing.Seen.{Seen}
use Rattle.packet_decoder.specs.Times.{time_after}
use Rattle.type_table.specs.TraceMetas.{TraceMetaModel}
use Rattle.type_table.specs.declared.declared.EventParts.{EventParts}
use Rattle.packet_decoder.specs.declared.failure.Failure.{Failure}
use Rattle.packet_decoder.specs.declared.failure.Failure.TheVariants as failure
use Rattle.trace_types.specs.declared.cause.Cause.{Cause}

-- where the next event is read, in what scopes, and how many events were read before it
pub record EventReaderModel : Type 0 where
  pub within : PacketModel
  pub scopes : Scopes
  pub cursor : Cursor
  pub read : ℕ

-- the events from a cursor on, before which so many were read, or the first cause for which the packet is refused; all events of a packet are at most as many as its bits
abbrev pub events_after : PacketModel → Scopes → Cursor → ℕ → Result (List RawEvent) Cause
events_after w s c read = events_from (w.end - read) w s [] c

-- the events that are left, or the first cause for which the packet is refused
abbrev pub events_left : EventReaderModel → Result (List RawEvent) Cause
events_left u = events_after u.within u.scopes u.cursor u.read

-- an event before others
abbrev pub and_before : RawEvent → Result (List RawEvent) Cause → Result (List RawEvent) Cause
and_before raw rest = and_then rest (λ es. Ok (raw ∷ es))

-- the cause for which the packet is refused, if it is
abbrev pub refusal : Result (List RawEvent) Cause → Option Cause
refusal (Ok events) = None
refusal (Err cause) = Some cause

-- ---- events whose fields may be passed over

-- a call answers an event's fields, which are of this type and were kept, or passed over where that is allowed, and the bit after them; or it refuses as they are refused
abbrev pub FieldsReadAs : PacketModel → Option ℕ → Option ℕ → Result (Option Field × ℕ) Cause → Result FieldsRead Failure → Type 0
FieldsReadAs w ty skip answer (Ok r) = (whole : Option Field) × (answer ≡ Ok (whole, r.end)) × AreKeptOrAt w.meta.table w.bytes w.end ty skip (field_or_none whole) (field_or_none r.fields) r.from
FieldsReadAs w ty skip answer (Err (failure.Refused cause)) = answer ≡ Err cause
FieldsReadAs w ty skip answer (Err failure.OutOfMemory) = Unit {0}

-- an event, and how it was read from these bits: with its fields, or with the bit at which they begin where they may be passed over
pub record IsReadAs (m : TraceMetaModel) (bytes : List ℕ) (end : ℕ) (skips : List (Option ℕ)) (whole : RawEvent) (read : ReadEvent) : Type 0 where
  pub time : read.raw.time ≡ whole.time
  pub cpu : read.raw.cpu ≡ whole.cpu
  pub event : read.raw.event ≡ whole.event
  pub fields : AreFieldsOf m bytes end skips read.raw.event whole.fields read.raw.fields read.fields_at

-- a call reads an event of a packet so, or refuses as it is refused
abbrev pub EventReadAs : PacketModel → List (Option ℕ) → Result (RawEvent × Cursor) Cause → Result (ReadEvent × Cursor) Failure → Type 0
EventReadAs w skips answer (Ok r) = (whole : RawEvent) × (answer ≡ Ok (whole, r.1)) × IsReadAs w.meta w.bytes w.end skips whole r.0
EventReadAs w skips answer (Err (failure.Refused cause)) = answer ≡ Err cause
EventReadAs w skips answer (Err failure.OutOfMemory) = Unit {0}

-- ---- headers whose fields aren't kept

-- the plan of a stream's headers, where it has any and no type looks into them
abbrev pub planned_header : PacketModel → Bool → Option HeaderPlan
planned_header w lone = if lone then option_and_then (plan_of w.meta.table) w.parts.event_header else None

-- a plan fits the type of a stream's headers, and no type looks into these
abbrev pub PlanFits : Table → Option ℕ → Option HeaderPlan → Type 0
PlanFits t ty None = Unit {0}
PlanFits t None (Some plan) = ⊥
PlanFits t (Some ty) (Some plan) = IsReadablePlan plan × IsPlanFor t ty plan × IsLone t

-- a number is the whole header of a stream's events, and no type looks into these
abbrev pub SingleFits : Table → Option ℕ → SingleNumber → Type 0
SingleFits t ty s = IsReadableSingle s × ((plan : HeaderPlan) × PlanFits t ty (Some plan) × (single_number plan ≡ Some s))

-- what a header tells, and how it was read, which may be without its fields where no type looks into them
pub record IsHeadReadAs (t : Table) (whole head : EventHead) : Type 0 where
  pub at : head.at ≡ whole.at
  pub event : head.event ≡ whole.event
  pub parts : head.parts ≡ whole.parts
  pub timestamp : head.timestamp ≡ whole.timestamp
  pub header : (head.header ≡ whole.header) ⊎ IsLone t

-- a call reads a header so, or refuses as it is refused
abbrev pub HeadReadAs : Table → Result EventHead Cause → Result EventHead Failure → Type 0
HeadReadAs t answer (Ok head) = (whole : EventHead) × (answer ≡ Ok whole) × IsHeadReadAs t whole head
HeadReadAs t answer (Err (failure.Refused cause)) = answer ≡ Err cause
HeadReadAs t answer (Err failure.OutOfMemory) = Unit {0}

-- ---- events that are passed over

-- nothing stands behind the headers of events with these parts
abbrev pub is_bare : PacketModel → EventParts → Bool
is_bare w parts = is_none w.parts.event_context && is_none parts.context && is_none parts.fields

-- a call answers an event's index, and whether nothing stands behind its headers
abbrev pub NamedAs : PacketModel → Option (ℕ × EventParts) → Option (ℕ × Bool) → Type 0
NamedAs w answer (Some r) = (parts : EventParts) × (answer ≡ Some (r.0, parts)) × (r.1 ≡ is_bare w parts)
NamedAs w answer None = answer ≡ None

-- what a header tells whose fields aren't kept, of an event with these parts
abbrev pub unkept : ToldHead → EventParts → EventHead
unkept head parts = record { header = None; at = head.at; event = head.event; parts = parts; timestamp = head.timestamp }

-- an event is declared, and what is known of its parts is so
abbrev pub IsDeclared : PacketModel → ToldHead → Type 0
IsDeclared w head = (parts : EventParts) × (option_map (λ d. d.1) (slice_get w.meta.declared.events head.event) ≡ Some parts) × (head.is_bare ≡ is_bare w parts)

-- a call tells so what a header tells, or refuses as it is refused
abbrev pub HeadToldAs : PacketModel → Result EventHead Cause → Result ToldHead Failure → Type 0
HeadToldAs w answer (Ok head) = (whole : EventHead) × (answer ≡ Ok whole) × IsHeadReadAs w.meta.table whole (unkept head whole.parts) × (head.is_bare ≡ is_bare w whole.parts) × (option_map (λ d. d.1) (slice_get w.meta.declared.events head.event) ≡ Some whole.parts)
HeadToldAs w answer (Err (failure.Refused cause)) = answer ≡ Err cause
HeadToldAs w answer (Err failure.OutOfMemory) = Unit {0}

-- an event that was looked up before is what its id finds
abbrev pub IsLast : PacketModel → Option LastEvent → Type 0
IsLast w None = Unit {0}
IsLast w (Some e) = NamedAs w (event_by w.meta w.stream (Some e.id)) (Some (e.event, e.is_bare))

-- at this value of the clock, an event without a timestamp has a time
abbrev pub IsTimed : TraceMetaModel → Option ℕ → Type 0
IsTimed meta None = Unit {0}
IsTimed meta (Some clock) = (time : ℕ) × (time_after meta None clock ≡ Ok (clock, time))

-- what was found out of the events before holds of a packet
abbrev pub IsSeen : PacketModel → Seen → Type 0
IsSeen w seen = IsLast w seen.last × IsTimed w.meta seen.timed

-- a call answers the clock's value and not the time, or refuses as these are refused
abbrev pub ClockAs : Result (ℕ × ℕ) Cause → Result ℕ Cause → Type 0
ClockAs answer (Ok clock) = (time : ℕ) × (answer ≡ Ok (clock, time))
ClockAs answer (Err cause) = answer ≡ Err cause

-- a call answers the bit after a field and not the field, or refuses as it is refused
abbrev pub EndsAs : Result (Option Field × ℕ) Cause → Result ℕ Failure → Type 0
EndsAs answer (Ok end) = (whole : Option Field) × (answer ≡ Ok (whole, end))
EndsAs answer (Err (failure.Refused cause)) = answer ≡ Err cause
EndsAs answer (Err failure.OutOfMemory) = Unit {0}

-- a call answers the cursor behind an event that can be read, or refuses as it is refused
abbrev pub EventPassedAs : Result (RawEvent × Cursor) Cause → Result Cursor Failure → Type 0
EventPassedAs answer (Ok next) = (whole : RawEvent) × (answer ≡ Ok (whole, next))
EventPassedAs answer (Err (failure.Refused cause)) = answer ≡ Err cause
EventPassedAs answer (Err failure.OutOfMemory) = Unit {0}

-- ---- events that repeat the one before

-- the id of an event that was looked up before, where an event of its id can only repeat it: the id is the whole header, nothing stands behind it, and at this value of the clock it has a time
abbrev pub repeated_by : SingleNumber → ℕ → LastEvent → ℕ → Option ℕ
repeated_by s clock last timed = if s.number.is_id && not s.number.is_timestamp && last.is_bare && nat_eq timed clock then Some last.id else None

-- the same of what was found out of the events before, where an event was looked up and a value of the clock is known at which one without a timestamp has a time
abbrev pub repeated_id : SingleNumber → Seen → ℕ → Option ℕ
repeated_id s seen clock = option_and_then (λ last. option_and_then (repeated_by s clock last) seen.timed) seen.last
