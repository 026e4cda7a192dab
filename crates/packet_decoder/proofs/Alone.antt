-- What is read of an event's scopes after a change of scopes into which no type looks.
use Rattle.std.proofs.Common.{◌≡◌, ◌∙◌, ℕ, Option, None, Some, Result, Ok, Err, refl, ap}
use Rattle.type_table.specs.PerScope.{with_scope}
use Rattle.type_table.specs.declared.declared.EventParts.{EventParts}
use Rattle.type_table.specs.declared.meta.ScopeName.TheVariants.{EventContext, StreamContext}
use Rattle.ctf_fields.specs.declared.field.Field.{Field}
use Rattle.ctf_fields.specs.Fields.{Scopes}
use Rattle.ctf_fields.specs.Reading.{as_read, scope_read}
use Rattle.trace_types.specs.declared.cause.Cause.{Cause}
use Rattle.packet_decoder.specs.Events.{PacketModel, as_result, event_body, event_fields, from_of, scope_at}
use Rattle.packet_decoder.specs.PacketHeads.{and_then}

pub after : {A B : Type 0} (x : Result A Cause) (f g : A → Result B Cause) → ((a : A) → f a ≡ g a) → and_then x f ≡ and_then x g
after (Ok a) f g same = same a
after (Err cause) f g same = refl

-- a change that no type sees, and that leaves the stream's context and the event's as they are
pub record IsUnseen (w : PacketModel) (change : Scopes → Scopes) : Type 0 where
  pub reads : (s : Scopes) (ty at : ℕ) → scope_read (from_of w (change s)) ty at ≡ scope_read (from_of w s) ty at
  pub stream : (x : Option Field) (s : Scopes) → with_scope StreamContext x (change s) ≡ change (with_scope StreamContext x s)
  pub event : (x : Option Field) (s : Scopes) → with_scope EventContext x (change s) ≡ change (with_scope EventContext x s)

module _ (w : PacketModel) (change : Scopes → Scopes) (unseen : IsUnseen w change) where
  pub scope_alone : (s : Scopes) (ty : Option ℕ) (at : ℕ) → scope_at w (change s) ty at ≡ scope_at w s ty at
  scope_alone s None at = refl
  scope_alone s (Some ty) at = ap (λ r. as_result (as_read Some r)) (unseen.reads s ty at)

  fields_alone : (s : Scopes) (parts : EventParts) (at : ℕ) → event_fields w (change s) parts at ≡ event_fields w s parts at
  unfolding event_fields
  fields_alone s parts at =
      ap (λ r. and_then r (λ y. scope_at w (with_scope EventContext y.0 (change s)) parts.fields y.1)) (scope_alone s parts.context at)
      ∙ after (scope_at w s parts.context at) _ _ (λ y. ap (λ x. scope_at w x parts.fields y.1) (unseen.event y.0 s) ∙ scope_alone (with_scope EventContext y.0 s) parts.fields y.1)

  pub body_alone : (s : Scopes) (parts : EventParts) (at : ℕ) → event_body w (change s) parts at ≡ event_body w s parts at
  unfolding event_body
  body_alone s parts at =
      ap (λ r. and_then r (λ x. event_fields w (with_scope StreamContext x.0 (change s)) parts x.1)) (scope_alone s w.parts.event_context at)
      ∙ after (scope_at w s w.parts.event_context at) _ _ (λ x. ap (λ y. event_fields w y parts x.1) (unseen.stream x.0 s) ∙ fields_alone (with_scope StreamContext x.0 s) parts x.1)
