-- What holds of the value of each scope.
use Rattle.std.proofs.Common.{◌≡◌, refl}
use Rattle.type_table.specs.declared.per_scope.PerScope.{PerScope}
use Rattle.type_table.specs.declared.meta.ScopeName.{ScopeName}
use Rattle.type_table.specs.declared.meta.ScopeName.TheVariants.{PacketHeader, PacketContext, EventHeader, StreamContext, EventContext, EventFields}
use Rattle.type_table.specs.PerScope.{AllScopes, map_scopes, of_scope, with_scope}

pub map_scopes_with : {A B : Type 0} (f : A → B) (scope : ScopeName) (a : A) (s : PerScope A) → map_scopes f (with_scope scope a s) ≡ with_scope scope (f a) (map_scopes f s)
map_scopes_with f PacketHeader a s = refl
map_scopes_with f PacketContext a s = refl
map_scopes_with f EventHeader a s = refl
map_scopes_with f StreamContext a s = refl
map_scopes_with f EventContext a s = refl
map_scopes_with f EventFields a s = refl

pub map_scopes_same : {A B : Type 0} (f g : A → B) (P : A → Type 0) → ((a : A) → P a → f a ≡ g a) → (s : PerScope A) → AllScopes P s → map_scopes f s ≡ map_scopes g s
map_scopes_same f g P same s all = λ i. record {
  packet_header = same s.packet_header all.packet_header i;
  packet_context = same s.packet_context all.packet_context i;
  event_header = same s.event_header all.event_header i;
  stream_context = same s.stream_context all.stream_context i;
  event_context = same s.event_context all.event_context i;
  event_fields = same s.event_fields all.event_fields i;
}

pub all_scopes_of : {A : Type 0} (P : A → Type 0) (scope : ScopeName) (s : PerScope A) → AllScopes P s → P (of_scope scope s)
all_scopes_of P PacketHeader s all = all.packet_header
all_scopes_of P PacketContext s all = all.packet_context
all_scopes_of P EventHeader s all = all.event_header
all_scopes_of P StreamContext s all = all.stream_context
all_scopes_of P EventContext s all = all.event_context
all_scopes_of P EventFields s all = all.event_fields

pub all_scopes_more : {A : Type 0} (P Q : A → Type 0) → ((a : A) → P a → Q a) → (s : PerScope A) → AllScopes P s → AllScopes Q s
all_scopes_more P Q more s all = record {
  packet_header = more s.packet_header all.packet_header;
  packet_context = more s.packet_context all.packet_context;
  event_header = more s.event_header all.event_header;
  stream_context = more s.stream_context all.stream_context;
  event_context = more s.event_context all.event_context;
  event_fields = more s.event_fields all.event_fields;
}

pub all_scopes_with : {A : Type 0} (P : A → Type 0) (scope : ScopeName) (a : A) (s : PerScope A) → P a → AllScopes P s → AllScopes P (with_scope scope a s)
all_scopes_with P PacketHeader a s h all = record { packet_header = h; packet_context = all.packet_context; event_header = all.event_header; stream_context = all.stream_context; event_context = all.event_context; event_fields = all.event_fields }
all_scopes_with P PacketContext a s h all = record { packet_header = all.packet_header; packet_context = h; event_header = all.event_header; stream_context = all.stream_context; event_context = all.event_context; event_fields = all.event_fields }
all_scopes_with P EventHeader a s h all = record { packet_header = all.packet_header; packet_context = all.packet_context; event_header = h; stream_context = all.stream_context; event_context = all.event_context; event_fields = all.event_fields }
all_scopes_with P StreamContext a s h all = record { packet_header = all.packet_header; packet_context = all.packet_context; event_header = all.event_header; stream_context = h; event_context = all.event_context; event_fields = all.event_fields }
all_scopes_with P EventContext a s h all = record { packet_header = all.packet_header; packet_context = all.packet_context; event_header = all.event_header; stream_context = all.stream_context; event_context = h; event_fields = all.event_fields }
all_scopes_with P EventFields a s h all = record { packet_header = all.packet_header; packet_context = all.packet_context; event_header = all.event_header; stream_context = all.stream_context; event_context = all.event_context; event_fields = h }

-- it holds of the values of each scope in both
pub record BothScopes {A B : Type 0} (P : A → B → Type 0) (s : PerScope A) (r : PerScope B) : Type 0 where
  pub packet_header : P s.packet_header r.packet_header
  pub packet_context : P s.packet_context r.packet_context
  pub event_header : P s.event_header r.event_header
  pub stream_context : P s.stream_context r.stream_context
  pub event_context : P s.event_context r.event_context
  pub event_fields : P s.event_fields r.event_fields

pub both_scopes_of : {A B : Type 0} (P : A → B → Type 0) (scope : ScopeName) (s : PerScope A) (r : PerScope B) → BothScopes P s r → P (of_scope scope s) (of_scope scope r)
both_scopes_of P PacketHeader s r both = both.packet_header
both_scopes_of P PacketContext s r both = both.packet_context
both_scopes_of P EventHeader s r both = both.event_header
both_scopes_of P StreamContext s r both = both.stream_context
both_scopes_of P EventContext s r both = both.event_context
both_scopes_of P EventFields s r both = both.event_fields

pub both_scopes_with : {A B : Type 0} (P : A → B → Type 0) (scope : ScopeName) (a : A) (b : B) (s : PerScope A) (r : PerScope B) → P a b → BothScopes P s r → BothScopes P (with_scope scope a s) (with_scope scope b r)
both_scopes_with P PacketHeader a b s r h both = record { packet_header = h; packet_context = both.packet_context; event_header = both.event_header; stream_context = both.stream_context; event_context = both.event_context; event_fields = both.event_fields }
both_scopes_with P PacketContext a b s r h both = record { packet_header = both.packet_header; packet_context = h; event_header = both.event_header; stream_context = both.stream_context; event_context = both.event_context; event_fields = both.event_fields }
both_scopes_with P EventHeader a b s r h both = record { packet_header = both.packet_header; packet_context = both.packet_context; event_header = h; stream_context = both.stream_context; event_context = both.event_context; event_fields = both.event_fields }
both_scopes_with P StreamContext a b s r h both = record { packet_header = both.packet_header; packet_context = both.packet_context; event_header = both.event_header; stream_context = h; event_context = both.event_context; event_fields = both.event_fields }
both_scopes_with P EventContext a b s r h both = record { packet_header = both.packet_header; packet_context = both.packet_context; event_header = both.event_header; stream_context = both.stream_context; event_context = h; event_fields = both.event_fields }
both_scopes_with P EventFields a b s r h both = record { packet_header = both.packet_header; packet_context = both.packet_context; event_header = both.event_header; stream_context = both.stream_context; event_context = both.event_context; event_fields = h }
