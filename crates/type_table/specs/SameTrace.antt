-- Two representations of one trace: they keep the same types at indices of their own, and all else alike (this project's own).
use Rattle.std.specs.Prelude.{◌≡◌, ℕ, List, [], ◌∷◌, Option, option_map}
use Rattle.type_table.specs.declared.declared.EventId.{EventId}
use Rattle.type_table.specs.declared.declared.EventParts.{EventParts}
use Rattle.type_table.specs.declared.declared.StreamScopes.{StreamScopes}
use Rattle.type_table.specs.Table.{Table, tree}
use Rattle.type_table.specs.TraceMetas.{TraceMetaModel}

-- the types at two indices, where there are any, are one tree
abbrev pub IsSameType : Table → Table → Option ℕ → Option ℕ → Type 0
IsSameType t u a b = option_map (tree t) a ≡ option_map (tree u) b

-- streams of one id whose scopes have the same types
pub record IsSameStream (t u : Table) (s r : ℕ × StreamScopes) : Type 0 where
  pub id : s.0 ≡ r.0
  pub packet_context : IsSameType t u s.1.packet_context r.1.packet_context
  pub event_header : IsSameType t u s.1.event_header r.1.event_header
  pub event_context : IsSameType t u s.1.event_context r.1.event_context

-- events of one id and name whose scopes have the same types
pub record IsSameEvent (t u : Table) (e f : EventId × EventParts) : Type 0 where
  pub id : e.0 ≡ f.0
  pub name : e.1.name ≡ f.1.name
  pub context : IsSameType t u e.1.context f.1.context
  pub fields : IsSameType t u e.1.fields f.1.fields

-- two lists are as long, and this holds of each two items at one index
abbrev pub AreBoth : {A : Type 0} → (A → A → Type 0) → List A → List A → Type 0
AreBoth P [] [] = Unit {0}
AreBoth P (a ∷ more) (b ∷ others) = P a b × AreBoth P more others
AreBoth P _ _ = ⊥

pub record IsSameTrace (m n : TraceMetaModel) : Type 0 where
  pub header : IsSameType m.table n.table m.packet_header n.packet_header
  pub uuid : m.declared.uuid ≡ n.declared.uuid
  pub streams : AreBoth (IsSameStream m.table n.table) m.declared.streams n.declared.streams
  pub events : AreBoth (IsSameEvent m.table n.table) m.declared.events n.declared.events
  pub event_names : m.declared.event_names ≡ n.declared.event_names
  pub clocks : m.declared.clocks ≡ n.declared.clocks
  pub hostname : m.declared.hostname ≡ n.declared.hostname
