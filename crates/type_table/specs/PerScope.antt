-- What there is once for each scope of a packet and an event (CTF 1.8, sections 5 and 6).
use Rattle.std.specs.Prelude.{Option, None}
use Rattle.type_table.specs.declared.per_scope.PerScope.{PerScope}
use Rattle.type_table.specs.declared.meta.ScopeName.{ScopeName}
use Rattle.type_table.specs.declared.meta.ScopeName.TheVariants.{PacketHeader, PacketContext, EventHeader, StreamContext, EventContext, EventFields}

-- what there is for a scope
abbrev pub of_scope : {A : Type 0} → ScopeName → PerScope A → A
of_scope PacketHeader s = s.packet_header
of_scope PacketContext s = s.packet_context
of_scope EventHeader s = s.event_header
of_scope StreamContext s = s.stream_context
of_scope EventContext s = s.event_context
of_scope EventFields s = s.event_fields

-- another value for one scope
abbrev pub with_scope : {A : Type 0} → ScopeName → A → PerScope A → PerScope A
with_scope PacketHeader a s = record { packet_header = a; packet_context = s.packet_context; event_header = s.event_header; stream_context = s.stream_context; event_context = s.event_context; event_fields = s.event_fields }
with_scope PacketContext a s = record { packet_header = s.packet_header; packet_context = a; event_header = s.event_header; stream_context = s.stream_context; event_context = s.event_context; event_fields = s.event_fields }
with_scope EventHeader a s = record { packet_header = s.packet_header; packet_context = s.packet_context; event_header = a; stream_context = s.stream_context; event_context = s.event_context; event_fields = s.event_fields }
with_scope StreamContext a s = record { packet_header = s.packet_header; packet_context = s.packet_context; event_header = s.event_header; stream_context = a; event_context = s.event_context; event_fields = s.event_fields }
with_scope EventContext a s = record { packet_header = s.packet_header; packet_context = s.packet_context; event_header = s.event_header; stream_context = s.stream_context; event_context = a; event_fields = s.event_fields }
with_scope EventFields a s = record { packet_header = s.packet_header; packet_context = s.packet_context; event_header = s.event_header; stream_context = s.stream_context; event_context = s.event_context; event_fields = a }

-- each scope's value changed alike
abbrev pub map_scopes : {A B : Type 0} → (A → B) → PerScope A → PerScope B
map_scopes f s = record { packet_header = f s.packet_header; packet_context = f s.packet_context; event_header = f s.event_header; stream_context = f s.stream_context; event_context = f s.event_context; event_fields = f s.event_fields }

-- nothing for any scope
abbrev pub no_scopes : {A : Type 0} → PerScope (Option A)
no_scopes = record { packet_header = None; packet_context = None; event_header = None; stream_context = None; event_context = None; event_fields = None }

-- what is read before an event's own scopes: a packet's header and context, and an event's header and its stream's context
abbrev pub scopes_before : {A : Type 0} → Option A → Option A → Option A → Option A → PerScope (Option A)
scopes_before packet_header packet_context event_header stream_context = record { packet_header = packet_header; packet_context = packet_context; event_header = event_header; stream_context = stream_context; event_context = None; event_fields = None }

-- it holds of each scope's value
pub record AllScopes {A : Type 0} (P : A → Type 0) (s : PerScope A) : Type 0 where
  pub packet_header : P s.packet_header
  pub packet_context : P s.packet_context
  pub event_header : P s.event_header
  pub stream_context : P s.stream_context
  pub event_context : P s.event_context
  pub event_fields : P s.event_fields
