-- Elements of a list after a change at one place.
use Rattle.std.proofs.Common.{◌≡◌, ◌≢◌, ◌<◌, ℕ, zero, suc, Some, List, [], ◌∷◌, ◌++◌, length, set, replicate, slice_get, refl, ap, arith}

module _ {X : Type 0} where
  pub at_set : (xs : List X) (i : ℕ) (y : X) → i < length xs → slice_get (set xs i y) i ≡ Some y
  at_set [] i y h = absurd (omega arith)
  at_set (x ∷ xs) zero y h = refl
  at_set (x ∷ xs) (suc i) y h = at_set xs i y (omega arith)

  pub beside_set : (xs : List X) (i j : ℕ) (y : X) → j ≢ i → slice_get (set xs i y) j ≡ slice_get xs j
  beside_set [] i j y ne = refl
  beside_set (x ∷ xs) zero zero y ne = absurd (ne refl)
  beside_set (x ∷ xs) zero (suc j) y ne = refl
  beside_set (x ∷ xs) (suc i) zero y ne = refl
  beside_set (x ∷ xs) (suc i) (suc j) y ne = beside_set xs i j y (λ e. ne (ap suc e))

  pub before_push : (xs : List X) (j : ℕ) (y : X) → j < length xs → slice_get (xs ++ y ∷ []) j ≡ slice_get xs j
  before_push [] j y h = absurd (omega arith)
  before_push (x ∷ xs) zero y h = refl
  before_push (x ∷ xs) (suc j) y h = before_push xs j y (omega arith)

  pub at_push : (xs : List X) (y : X) → slice_get (xs ++ y ∷ []) (length xs) ≡ Some y
  at_push [] y = refl
  at_push (x ∷ xs) y = at_push xs y

  pub at_replicate : (n i : ℕ) (y : X) → i < n → slice_get (replicate n y) i ≡ Some y
  at_replicate zero i y h = absurd (omega arith)
  at_replicate (suc n) zero y h = refl
  at_replicate (suc n) (suc i) y h = at_replicate n i y (omega arith)

  pub within : (xs : List X) (i : ℕ) → i < length xs → (x : X) × (slice_get xs i ≡ Some x)
  within [] i h = absurd (omega arith)
  within (x ∷ xs) zero h = (x, refl)
  within (x ∷ xs) (suc i) h = within xs i (omega arith)

  pub one_get : (xs : List X) (i : ℕ) (x y : X) → slice_get xs i ≡ Some x → slice_get xs i ≡ Some y → x ≡ y
  one_get xs i x y e f = cc
