-- Where a key would stand in a list in order (this project's own).
use Rattle.std.specs.Prelude.{ℕ, ◌≡◌, ◌<◌, ◌≤◌, Some, List, length, slice_get}

-- each key is below those after it
abbrev pub Rises : {X : Type 0} → (X → ℕ) → List X → Type 0
Rises {X} key xs = (j k : ℕ) (c d : X) → j < k → slice_get xs j ≡ Some c → slice_get xs k ≡ Some d → key c < key d

-- this many keys are at or below one, and those after it are above
pub record IsCutAfter {X : Type 0} (key : X → ℕ) (xs : List X) (wanted count : ℕ) : Type 0 where
  pub bound : count ≤ length xs
  pub low : (k : ℕ) (x : X) → k < count → slice_get xs k ≡ Some x → key x ≤ wanted
  pub high : (k : ℕ) (x : X) → count ≤ k → slice_get xs k ≡ Some x → wanted < key x

-- this many keys are below one, and those after it are not
pub record IsCutBefore {X : Type 0} (key : X → ℕ) (xs : List X) (wanted count : ℕ) : Type 0 where
  pub bound : count ≤ length xs
  pub low : (k : ℕ) (x : X) → k < count → slice_get xs k ≡ Some x → key x < wanted
  pub high : (k : ℕ) (x : X) → count ≤ k → slice_get xs k ≡ Some x → wanted ≤ key x
