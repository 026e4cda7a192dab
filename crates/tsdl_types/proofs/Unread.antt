-- A text that is no unique id.
use Rattle.std.proofs.Common.{◌≡◌, Option, Some, None, false, true, refl}

pub none_of : {A : Type 0} (o : Option A) → ((u : A) × (o ≡ Some u) → false ≡ true) → o ≡ None
none_of None never = refl
none_of (Some a) never = absurd (false_true (never (a, refl)))
  where
    false_true : false ≡ true → ⊥
    false_true e = absurd (cc)
