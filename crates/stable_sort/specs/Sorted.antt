-- The stable sort of a list by a key.
use Rattle.std.specs.Prelude.{ℕ, List, [], ◌∷◌, if◌then◌else◌, nat_lt}

module _ {X : Type 0} (key : X → ℕ) where
  -- the item stands before the first one whose key isn't less
  abbrev pub put_in : X → List X → List X
  put_in x [] = x ∷ []
  put_in x (y ∷ ys) = if nat_lt (key y) (key x) then y ∷ put_in x ys else x ∷ y ∷ ys

  -- the items by their keys, from the least on; those of one key stand as before
  abbrev pub sorted : List X → List X
  sorted [] = []
  sorted (x ∷ xs) = put_in x (sorted xs)
