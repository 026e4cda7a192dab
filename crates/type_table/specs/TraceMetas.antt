-- What blocks declared, with types as indices.
use Rattle.std.specs.Prelude.{ℕ, ℤ, pos, neg_ℤ, ◌≤ℤ◌, ◌≤◌, ◌<◌, ◌^◌, Bool, false, true, if◌then◌else◌, List, [], ◌∷◌, ◌++◌, length, Option, None, Some}
use Rattle.std.specs.List.{list_any}
use Rattle.trace_types.specs.Texts.{is_text}
use Rattle.type_table.specs.declared.declared.ClockRate.{ClockRate}
use Rattle.type_table.specs.declared.declared.EventId.{EventId}
use Rattle.type_table.specs.declared.declared.EventParts.{EventParts}
use Rattle.type_table.specs.declared.declared.StreamScopes.{StreamScopes}
use Rattle.type_table.specs.contracts.declared.EventIdPartialEq.TheImpl as event_id
use Rattle.type_table.specs.Table.{Table, IsSoundTable}
use Rattle.type_table.specs.Types.{Text}
use Rattle.trace_types.specs.declared.byte_order.ByteOrderKind.{ByteOrderKind}
use Rattle.std.specs.List.{AllByRecursion}

-- streams by their ids, events by theirs, clocks by their names, in the order in which they were declared
pub record DeclaredIndices : Type 0 where
  pub is_trace_read : Bool
  pub uuid : Option (List ℕ)
  pub streams : List (ℕ × StreamScopes)
  pub events : List (EventId × EventParts)
  pub event_names : List Text
  pub clocks : List (Text × ClockRate)
  pub hostname : Option Text

abbrev pub same_event : EventId → EventId → Bool
same_event = event_id.ghosts.eq

-- an offset lies from -2^63 to 2^64 - 1
pub record IsOffset (z : ℤ) : Type 0 where
  pub least : neg_ℤ (pos 9223372036854775808) ≤ℤ z
  pub greatest : z ≤ℤ pos 18446744073709551615

-- a clock counts at least once a second
pub record IsRate (rate : ClockRate) : Type 0 where
  pub counts : 1 ≤ rate.freq
  pub offset : IsOffset rate.offset
  pub offset_s : IsOffset rate.offset_s

pub record AreFew (declared : DeclaredIndices) : Type 0 where
  pub names : length declared.event_names < 2 ^ 32
  pub clocks : length declared.clocks < 2 ^ 32
  pub rates : AllByRecursion (λ clock. IsRate clock.1) declared.clocks
  pub events : length declared.events < 2 ^ 32

abbrev pub nothing_kept : DeclaredIndices
nothing_kept = record { is_trace_read = false; uuid = None; streams = []; events = []; event_names = []; clocks = []; hostname = None }

abbrev pub kept_stream : ℕ → StreamScopes → DeclaredIndices → DeclaredIndices
kept_stream id s t = record { is_trace_read = t.is_trace_read; uuid = t.uuid; streams = t.streams ++ (id, s) ∷ []; events = t.events; event_names = t.event_names; clocks = t.clocks; hostname = t.hostname }

abbrev pub kept_event : EventId → EventParts → DeclaredIndices → DeclaredIndices
kept_event id e t = record { is_trace_read = t.is_trace_read; uuid = t.uuid; streams = t.streams; events = t.events ++ (id, e) ∷ []; event_names = t.event_names; clocks = t.clocks; hostname = t.hostname }

abbrev pub kept_clock : Text → ClockRate → DeclaredIndices → DeclaredIndices
kept_clock name rate t = record { is_trace_read = t.is_trace_read; uuid = t.uuid; streams = t.streams; events = t.events; event_names = t.event_names; clocks = t.clocks ++ (name, rate) ∷ []; hostname = t.hostname }

abbrev pub kept_trace : DeclaredIndices → DeclaredIndices
kept_trace t = record { is_trace_read = true; uuid = t.uuid; streams = t.streams; events = t.events; event_names = t.event_names; clocks = t.clocks; hostname = t.hostname }

abbrev pub kept_uuid : List ℕ → DeclaredIndices → DeclaredIndices
kept_uuid u t = record { is_trace_read = t.is_trace_read; uuid = Some u; streams = t.streams; events = t.events; event_names = t.event_names; clocks = t.clocks; hostname = t.hostname }

abbrev pub kept_hostname : Text → DeclaredIndices → DeclaredIndices
kept_hostname name t = record { is_trace_read = t.is_trace_read; uuid = t.uuid; streams = t.streams; events = t.events; event_names = t.event_names; clocks = t.clocks; hostname = Some name }

-- the names with one more, where it is new
abbrev pub with_name_of : Text → List Text → List Text
with_name_of name names = if list_any (is_text name) names then names else names ++ name ∷ []

abbrev pub kept_name : Text → DeclaredIndices → DeclaredIndices
kept_name name t = record { is_trace_read = t.is_trace_read; uuid = t.uuid; streams = t.streams; events = t.events; event_names = with_name_of name t.event_names; clocks = t.clocks; hostname = t.hostname }

-- ---- types are in a table

abbrev pub IfHere : {A : Type 0} → (A → Type 0) → Option A → Type 0
IfHere P None = Unit {0}
IfHere P (Some a) = P a

abbrev pub IndexIn : Table → ℕ → Type 0
IndexIn t p = p < length t.types

abbrev pub StreamIn : Table → (ℕ × StreamScopes) → Type 0
StreamIn t s = IfHere (IndexIn t) s.1.packet_context × IfHere (IndexIn t) s.1.event_header × IfHere (IndexIn t) s.1.event_context

abbrev pub EventIn : Table → (EventId × EventParts) → Type 0
EventIn t e = IfHere (IndexIn t) e.1.context × IfHere (IndexIn t) e.1.fields

pub record DeclaredIn (t : Table) (declared : DeclaredIndices) : Type 0 where
  pub streams : AllByRecursion (StreamIn t) declared.streams
  pub events : AllByRecursion (EventIn t) declared.events

-- ---- what one trace declares

pub record TraceMetaModel : Type 0 where
  pub order : ByteOrderKind
  pub packet_header : Option ℕ
  pub table : Table
  pub declared : DeclaredIndices

pub record AreInside (m : TraceMetaModel) : Type 0 where
  pub header : IfHere (IndexIn m.table) m.packet_header
  pub declared : DeclaredIn m.table m.declared

-- what one trace declares as `TraceMeta` keeps it: its table is sound, and all indices lie in it
pub record IsSoundMeta (m : TraceMetaModel) : Type 0 where
  pub table : IsSoundTable m.table
  pub inside : AreInside m
  pub declared : AreFew m.declared
