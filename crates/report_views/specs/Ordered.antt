-- A list in the order of a comparison (insertion sort).
use Rattle.std.specs.Prelude.{if◌then◌else◌, List, [], ◌∷◌}
use Rattle.std.specs.Ordering.{is_lt}
use Rattle.std.specs.declared.cmp.Ordering.{Ordering}

module _ {A : Type 0} (compare : A → A → Ordering) where
  -- the item stands before the first one that isn't less
  abbrev pub put_in : A → List A → List A
  put_in x [] = x ∷ []
  put_in x (y ∷ ys) = if is_lt (compare y x) then y ∷ put_in x ys else x ∷ y ∷ ys

  -- the items, from the least on
  abbrev pub ordered : List A → List A
  ordered [] = []
  ordered (x ∷ xs) = put_in x (ordered xs)
