-- What holds of all elements of a list.
use Rattle.std.proofs.Common.{◌≡◌, ℕ, zero, suc, Some, List, [], ◌∷◌, slice_get, refl, subst}
use Rattle.std.specs.List.{AllByRecursion}

module _ {X : Type 0} (P : X → Type 0) where
  pub all_in : (xs : List X) → ((k : ℕ) (x : X) → slice_get xs k ≡ Some x → P x) → AllByRecursion P xs
  all_in [] h = tt
  all_in (x ∷ xs) h = (h 0 x refl, all_in xs (λ k y e. h (suc k) y e))

  pub at_place : (xs : List X) (k : ℕ) (x : X) → AllByRecursion P xs → slice_get xs k ≡ Some x → P x
  at_place [] k x h e = absurd (cc)
  at_place (y ∷ ys) zero x h e = let same : y ≡ x = cc in subst P same h.0
  at_place (y ∷ ys) (suc k) x h e = at_place ys k x h.1 e
