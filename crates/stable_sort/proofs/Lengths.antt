-- A sorted list is as long as before.
use Rattle.std.proofs.Common.{◌≡◌, ◌∙◌, ℕ, suc, Bool, true, false, List, [], ◌∷◌, length, refl, ap, if◌then◌else◌, nat_lt}
use Rattle.stable_sort.specs.Sorted.{put_in, sorted}

module _ {X : Type 0} (key : X → ℕ) where
  length_put : (x : X) (ys : List X) → length (put_in key x ys) ≡ suc (length ys)
  length_put x [] = refl
  length_put x (y ∷ ys) = by (nat_lt (key y) (key x)) (length_put x ys)
    where
      by : (b : Bool) → length (put_in key x ys) ≡ suc (length ys) → length (if b then y ∷ put_in key x ys else x ∷ y ∷ ys) ≡ suc (suc (length ys))
      by true e = ap suc e
      by false e = refl

  pub length_sorted : (xs : List X) → length (sorted key xs) ≡ length xs
  length_sorted [] = refl
  length_sorted (x ∷ xs) = length_put x (sorted key xs) ∙ ap suc (length_sorted xs)
