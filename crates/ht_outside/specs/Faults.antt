-- Counts of failed calls (this project's own).
use Rattle.std.specs.Prelude.{◌≡◌, ◌⊎◌, ℕ, ◌-◌, ◌^◌, ◌<◌, ◌≤◌, Err, Result}

-- a count that rose, or that stands at the greatest number of its type, where it can rise no more
abbrev pub HasRisen : ℕ → ℕ → Type 0
HasRisen old new = (old < new) ⊎ (new ≡ 2 ^ 64 - 1)

-- the count never falls, and a call fails only where it rose
pub record IsCaused {A E : Type 0} (failed : E) (result : Result A E) (old new : ℕ) : Type 0 where
  pub grows : old ≤ new
  pub cause : result ≡ Err failed → HasRisen old new
