-- An element of a list to which one was pushed.
use Rattle.std.proofs.Common.{◌≡◌, ◌⊎◌, inl, inr, ℕ, zero, suc, List, [], ◌∷◌, ◌++◌, Some, length, slice_get, refl, ap}

module _ {X : Type 0} where
  some_is : (x y : X) → Some x ≡ Some y → y ≡ x
  some_is x y e = cc

  pub pushed : (xs : List X) (y x : X) (i : ℕ) → slice_get (xs ++ y ∷ []) i ≡ Some x → (slice_get xs i ≡ Some x) ⊎ ((i ≡ length xs) × (x ≡ y))
  pushed [] y x zero h = inr (refl, some_is y x h)
  pushed [] y x (suc i) h = absurd (cc)
  pushed (z ∷ zs) y x zero h = inl h
  pushed (z ∷ zs) y x (suc i) h = one (pushed zs y x i h)
    where
      one : (slice_get zs i ≡ Some x) ⊎ ((i ≡ length zs) × (x ≡ y)) → (slice_get zs i ≡ Some x) ⊎ ((suc i ≡ suc (length zs)) × (x ≡ y))
      one (inl g) = inl g
      one (inr g) = inr (ap suc g.0, g.1)
