-- Slopes of lines that pass over lower points and under upper points (Duda, Harrus, Haddad and Bernard 1987, "Estimating global time
-- in distributed systems"; the bound on the drift is this project's own).
use Rattle.std.specs.Prelude.{ℕ, ◌+◌, ◌-◌, ◌*◌, ◌<◌, ◌≤◌, List, length, All}
use Rattle.hull_lines.specs.declared.point.ClockPoint.{ClockPoint}

-- a line of slope p / q can pass over the lower point and under the upper one: p / q * (x of upper - x of lower) ≤ y of upper - y of lower
abbrev pub Passes : ℕ → ℕ → ClockPoint → ClockPoint → Type 0
Passes p q lower upper = p * upper.x + q * lower.y ≤ p * lower.x + q * upper.y

-- p / q lies within drift parts in a million of 1, and passes each pair of a lower and an upper point
pub record IsAdmissible (lower upper : List ClockPoint) (drift p q : ℕ) : Type 0 where
  pub is_fraction : 0 < q
  pub not_slow : (1_000_000 - drift) * q ≤ p * 1_000_000
  pub not_fast : p * 1_000_000 ≤ (1_000_000 + drift) * q
  pub passes : All (λ l. All (Passes p q l) upper) lower

-- there are points of both kinds, and an admissible slope
pub record IsUsable (lower upper : List ClockPoint) (drift : ℕ) : Type 0 where
  pub some_lower : 0 < length lower
  pub some_upper : 0 < length upper
  pub p : ℕ
  pub q : ℕ
  pub slope : IsAdmissible lower upper drift p q
