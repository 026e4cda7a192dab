-- The events of a packet (CTF 1.8, section 6; the order of the checks is this project's own).
use Rattle.std.specs.Prelude.{ℕ, zero, suc, nat_eq, nat_lt, List, [], ◌∷◌, ◌++◌, drop, Option, Some, None, Result, Ok, Err, codes, option_map, position, slice_get, if◌then◌else◌}
use Rattle.std.specs.Map.{keys_of}
use Rattle.type_table.specs.PerScope.{scopes_before, with_scope}
use Rattle.type_table.specs.TraceMetas.{TraceMetaModel, same_event}
use Rattle.type_table.specs.declared.meta.ScopeName.TheVariants.{EventHeader, StreamContext, EventContext}
use Rattle.type_table.specs.declared.declared.EventParts.{EventParts}
use Rattle.type_table.specs.declared.declared.StreamScopes.{StreamScopes}
use Rattle.ctf_fields.specs.declared.error.FieldError.{FieldError}
use Rattle.ctf_fields.specs.declared.error.FieldError.TheVariants as error
use Rattle.ctf_fields.specs.declared.field.Field.{Field}
use Rattle.ctf_fields.specs.declared.field.Field.TheVariants as field
use Rattle.ctf_fields.specs.declared.raw.RawEvent.{RawEvent}
use Rattle.ctf_fields.specs.Fields.{Scopes, number_of}
use Rattle.ctf_fields.specs.Named.{last_named}
use Rattle.ctf_fields.specs.Reading.{SourceModel, Reads, Got, Fails}
use Rattle.packet_decoder.specs.PacketHeads.{and_then, packet_head, read_scope}
use Rattle.packet_decoder.specs.Times.{timestamp_in, time_after}
use Rattle.packet_decoder.specs.Values.{id_in, number_named}
use Rattle.trace_types.specs.declared.cause.Cause.{Cause}
use Rattle.trace_types.specs.declared.cause.Cause.TheVariants as cause
use Rattle.packet_decoder.specs.declared.events.Cursor.{Cursor}
use Rattle.packet_decoder.specs.declared.events.EventHead.{EventHead}
use Rattle.packet_decoder.specs.declared.failure.Failure.{Failure}
use Rattle.packet_decoder.specs.declared.failure.Failure.TheVariants as failure
use Rattle.packet_decoder.specs.declared.packet_head.PacketHead.{PacketHead}
use Rattle.packet_decoder.specs.declared.piece.PacketResult.{PacketResult}
use Rattle.packet_decoder.specs.declared.piece.PacketResult.TheVariants as result
use Rattle.packet_decoder.specs.declared.piece.PacketSpan.{PacketSpan}

-- a packet whose events are read: what its trace declares, its bits, its stream and its processor
pub record PacketModel : Type 0 where
  pub meta : TraceMetaModel
  pub bytes : List ℕ
  pub end : ℕ
  pub stream : ℕ
  pub parts : StreamScopes
  pub cpu : ℕ

abbrev pub from_of : PacketModel → Scopes → SourceModel
from_of w s = record { table = w.meta.table; bytes = w.bytes; end = w.end; scopes = s }

-- ---- the scopes of an event, one after the other

-- no scope of an event is read
abbrev pub cleared : Scopes → Scopes
cleared s = scopes_before s.packet_header s.packet_context None None

abbrev pub cause_of : FieldError → Cause
cause_of error.NoVariant = cause.NoVariant
cause_of error.TooLong = cause.TooLong
cause_of _ = cause.ShortContent

-- why an event can't be read of which a field can't be
abbrev pub failure_of : FieldError → Failure
failure_of error.ShortContent = failure.Refused cause.ShortContent
failure_of error.NoVariant = failure.Refused cause.NoVariant
failure_of error.TooLong = failure.Refused cause.TooLong
failure_of error.OutOfMemory = failure.OutOfMemory

abbrev pub as_result : Reads (Option Field) → Result (Option Field × ℕ) Cause
as_result (Got f bit) = Ok (f, bit)
as_result (Fails e) = Err (cause_of e)

-- the field of a scope, and the bit after it
abbrev pub scope_at : PacketModel → Scopes → Option ℕ → ℕ → Result (Option Field × ℕ) Cause
scope_at w s ty at = as_result (read_scope (from_of w s) ty at)

-- ---- an event's header

abbrev pub event_at : TraceMetaModel → Option ℕ → Option (ℕ × EventParts)
event_at meta None = None
event_at meta (Some index) = option_map (λ event. (index, event.1)) (slice_get meta.declared.events index)

abbrev pub event_by : TraceMetaModel → ℕ → Option ℕ → Option (ℕ × EventParts)
event_by meta stream None = None
event_by meta stream (Some id) = event_at meta (position (same_event (record { stream = stream; id = id })) (keys_of meta.declared.events))

-- the event that a header names: the last field of the name `id` tells it, 0 where there is none
abbrev pub event_of : TraceMetaModel → ℕ → Option Field → Option (ℕ × EventParts)
event_of meta stream header = event_by meta stream (id_in (number_of (last_named meta.table.names (codes "id") header)))

abbrev pub head_by : PacketModel → Option Field → ℕ → Option (ℕ × EventParts) → Result EventHead Cause
head_by w header at None = Err cause.UnknownEvent
head_by w header at (Some e) = Ok (record { header = header; at = at; event = e.0; parts = e.1; timestamp = timestamp_in w.meta.table (number_named w.meta.table (codes "timestamp") header) })

-- the header, what event it names, and its timestamp
unfoldable pub event_head : PacketModel → Scopes → ℕ → Result EventHead Cause
event_head w s at = and_then (scope_at w s w.parts.event_header at) (λ h. head_by w h.0 h.1 (event_of w.meta w.stream h.0))

-- ---- what stands after the header: the stream's context for events, the event's context, and its fields

unfoldable pub event_fields : PacketModel → Scopes → EventParts → ℕ → Result (Option Field × ℕ) Cause
event_fields w s parts at = and_then (scope_at w s parts.context at) (λ x. scope_at w (with_scope EventContext x.0 s) parts.fields x.1)

unfoldable pub event_body : PacketModel → Scopes → EventParts → ℕ → Result (Option Field × ℕ) Cause
event_body w s parts at = and_then (scope_at w s w.parts.event_context at) (λ x. event_fields w (with_scope StreamContext x.0 s) parts x.1)

-- ---- events

-- no field is a structure without fields
abbrev pub field_or_none : Option Field → Field
field_or_none None = field.Struct []
field_or_none (Some f) = f

abbrev pub event_timed : PacketModel → Cursor → EventHead → Option Field → ℕ → Result (RawEvent × Cursor) Cause
event_timed w c head fields at =
    if nat_eq at c.at then Err cause.NoBits
    else and_then (time_after w.meta head.timestamp c.clock) (λ t. Ok (record { time = t.1; cpu = w.cpu; event = head.event; fields = field_or_none fields }, record { clock = t.0; at = at }))

-- the event at a bit, and what stands after it
unfoldable pub event : PacketModel → Scopes → Cursor → Result (RawEvent × Cursor) Cause
event w s c =
    and_then (event_head w s c.at) (λ head.
    and_then (event_body w (with_scope EventHeader head.header s) head.parts head.at) (λ body. event_timed w c head body.0 body.1))

-- with the next event after those that were read
abbrev pub event_added : PacketModel → Scopes → List RawEvent → Cursor → Result (List RawEvent × Cursor) Cause
event_added w s done c = and_then (event w s c) (λ r. Ok (done ++ r.0 ∷ [], r.1))

-- the events from a bit on, after those that were read, of which each takes a bit at least: so many at most
unfoldable pub events_from : ℕ → PacketModel → Scopes → List RawEvent → Cursor → Result (List RawEvent) Cause
events_from zero w s done c = Ok done
events_from (suc most) w s done c =
    if nat_lt c.at w.end then and_then (event_added w s done c) (λ r. events_from most w s r.0 r.1)
    else Ok done

abbrev pub as_packet : Result (List RawEvent) Cause → PacketResult
as_packet (Ok events) = result.Events events
as_packet (Err cause) = result.Refused cause

abbrev pub within : TraceMetaModel → List ℕ → PacketSpan → PacketHead → PacketModel
within meta rest span h = record { meta = meta; bytes = rest; end = span.content_bits; stream = h.stream; parts = h.parts; cpu = span.cpu }

unfoldable pub packet_events : TraceMetaModel → List ℕ → PacketSpan → PacketHead → Result (List RawEvent) Cause
packet_events meta rest span h = events_from span.content_bits (within meta rest span h) (cleared h.scopes) [] (record { clock = span.begin; at = span.start_bit })

-- what a packet holds: all of its events, or the first cause for which it is refused
unfoldable pub decoded : TraceMetaModel → List ℕ → PacketSpan → PacketResult
decoded meta file span = as_packet (and_then (packet_head meta (drop span.offset file)) (packet_events meta (drop span.offset file) span))
