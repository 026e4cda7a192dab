-- A file that is read part by part.
use Rattle.std.specs.Prelude.{◌≡◌, ℕ, ◌≤◌, List, ◌++◌, length, take, drop}

-- n more bytes of the file stand after those that were read, and n is 0 only at or past the file's end
pub record HasPart (file old : List ℕ) (n : ℕ) (new : List ℕ) : Type 0 where
  pub part : new ≡ old ++ take n (drop (length old) file)
  pub within : n ≤ length (drop (length old) file)
  pub at_end : n ≡ 0 → length file ≤ length old
