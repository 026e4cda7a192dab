-- What a block adds to what blocks declared, and what is looked up in it.
use Rattle.std.specs.Prelude.{ℕ, Bool, true, nat_eq, is_some, List, [], ◌∷◌, ◌++◌, Option, Some, None}
use Rattle.std.specs.List.{position_or_len}
use Rattle.std.specs.Map.{lookup}
use Rattle.trace_types.specs.Texts.{is_text}
use Rattle.type_table.specs.declared.declared.ClockRate.{ClockRate}
use Rattle.type_table.specs.declared.declared.EventId.{EventId}
use Rattle.type_table.specs.PerScope.{scopes_before}
use Rattle.type_table.specs.TraceMetas.{same_event, with_name_of}
use Rattle.type_table.specs.Types.{Text, Ty}
use Rattle.type_scope.specs.TypeScopes.{Event, TypeScope, Scopes, Stream, Declared, Step, Good, with_declared}

abbrev pub with_trace_read : Declared → Declared
with_trace_read t = record { is_trace_read = true; uuid = t.uuid; streams = t.streams; events = t.events; event_names = t.event_names; clocks = t.clocks; hostname = t.hostname }

abbrev pub with_uuid : List ℕ → Declared → Declared
with_uuid u t = record { is_trace_read = t.is_trace_read; uuid = Some u; streams = t.streams; events = t.events; event_names = t.event_names; clocks = t.clocks; hostname = t.hostname }

abbrev pub with_stream : ℕ → Stream → Declared → Declared
with_stream id s t = record { is_trace_read = t.is_trace_read; uuid = t.uuid; streams = t.streams ++ (id, s) ∷ []; events = t.events; event_names = t.event_names; clocks = t.clocks; hostname = t.hostname }

abbrev pub with_event : EventId → Event → Declared → Declared
with_event id e t = record { is_trace_read = t.is_trace_read; uuid = t.uuid; streams = t.streams; events = t.events ++ (id, e) ∷ []; event_names = t.event_names; clocks = t.clocks; hostname = t.hostname }

abbrev pub with_event_names : List Text → Declared → Declared
with_event_names names t = record { is_trace_read = t.is_trace_read; uuid = t.uuid; streams = t.streams; events = t.events; event_names = names; clocks = t.clocks; hostname = t.hostname }

abbrev pub with_clock : Text → ClockRate → Declared → Declared
with_clock name rate t = record { is_trace_read = t.is_trace_read; uuid = t.uuid; streams = t.streams; events = t.events; event_names = t.event_names; clocks = t.clocks ++ (name, rate) ∷ []; hostname = t.hostname }

abbrev pub with_hostname : Text → Declared → Declared
with_hostname name t = record { is_trace_read = t.is_trace_read; uuid = t.uuid; streams = t.streams; events = t.events; event_names = t.event_names; clocks = t.clocks; hostname = Some name }

abbrev pub declaring : (Declared → Declared) → Step (Unit {0})
declaring change = λ k. Good (tt, with_declared (change k.declared) k)

abbrev pub stream_of : ℕ → Declared → Option Stream
stream_of id t = lookup (nat_eq id) t.streams

abbrev pub has_event : EventId → Declared → Bool
has_event id t = is_some (lookup (same_event id) t.events)

abbrev pub has_clock : Text → Declared → Bool
has_clock name t = is_some (lookup (is_text name) t.clocks)

-- an event with the index of its name among the names, which are more by it where it is new
abbrev pub with_event_named : Text → EventId → Option Ty → Option Ty → Declared → Declared
with_event_named name id context fields t =
    with_event id (record { name = position_or_len (is_text name) t.event_names; context = context; fields = fields })
    (with_event_names (with_name_of name t.event_names) t)

-- only the header of packets is read before a stream's scopes
abbrev pub scopes_of : Scopes → Option Stream → Scopes
scopes_of s None = scopes_before s.packet_header None None None
scopes_of s (Some declared) = scopes_before s.packet_header declared.packet_context declared.event_header declared.event_context

-- the scopes that can be read where a block begins, after those of this stream, if it is one's
abbrev pub stream_if_any : Option ℕ → Declared → Option Stream
stream_if_any None t = None
stream_if_any (Some id) t = stream_of id t

abbrev pub scopes_begun : Option ℕ → TypeScope → Scopes
scopes_begun id k = scopes_of k.scopes (stream_if_any id k.declared)
