-- Words of a line, each with the space before it.
use Rattle.std.specs.Prelude.{ℕ, List, ◌∷◌, flat_map}

abbrev pub spaced : List (List ℕ) → List ℕ
spaced ws = flat_map (λ w. 32 ∷ w) ws
