-- Files as lists of bytes, by folder and name.
use Rattle.std.specs.Prelude.{◌≡◌, ℕ, ◌≤◌, ◌↔◌, List, [], length, take, drop, Option, IsSome, unwrap_or, Contains}
use Rattle.std.specs.List.{AllPairs}

-- the bytes of each file that is there
abbrev pub Files : Type 0
Files = List ℕ → List ℕ → Option (List ℕ)

-- the bytes of a file; one that isn't there has none
abbrev pub bytes_of : Files → List ℕ → List ℕ → List ℕ
bytes_of files dir name = unwrap_or (files dir name) []

-- n bytes from byte `at` on stand at the front of the buffer, and n is 0 exactly at or past the end
pub record ReadsFrom (bytes : List ℕ) (at n : ℕ) (buf : List ℕ) : Type 0 where
  pub front : take n buf ≡ take n (drop at bytes)
  pub within : n ≤ length (drop at bytes)
  pub at_end : n ≡ 0 → length bytes ≤ at

-- the names of a folder's files, each once
pub record ListsNames (files : Files) (dir : List ℕ) (names : List (List ℕ)) : Type 0 where
  pub exact : (name : List ℕ) → Contains names name ↔ IsSome (files dir name)
  pub once : AllPairs (λ a b. a ≡ b → ⊥) names
