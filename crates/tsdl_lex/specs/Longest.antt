-- The longest match: how far a text begins with something that a front of it can be as a whole.
use Rattle.std.specs.Prelude.{◌≡◌, ℕ, ◌<◌, ◌≤◌, List, [], ◌∷◌, length, take, Option, Some, None}

-- a front of this length is this, and no longer one is any
pub record IsLongest {A : Type 0} (is : List ℕ → Option A) (text : List ℕ) (len : ℕ) (a : A) : Type 0 where
  pub within : len ≤ length text
  pub front : is (take len text) ≡ Some a
  pub longest : (longer : ℕ) → len < longer → longer ≤ length text → is (take longer text) ≡ None

-- no front is any
abbrev pub IsNowhere : {A : Type 0} → (List ℕ → Option A) → List ℕ → Type 0
IsNowhere is text = (len : ℕ) → len ≤ length text → is (take len text) ≡ None

-- what is read of a text, where it is read whole
abbrev pub at_end : {A : Type 0} → A → List ℕ → Option A
at_end a [] = Some a
at_end a (c ∷ rest) = None
