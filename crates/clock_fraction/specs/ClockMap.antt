-- Lines that bring one clock to another, and the map half way between two of them (after Duda, Harrus, Haddad and Bernard 1987,
-- "Estimating global time in distributed systems"; the rounding is this project's own).
use Rattle.std.specs.Prelude.{ℕ, ℤ, pos, ◌≡◌, ◌^◌, ◌-◌, ◌+ℤ◌, ◌-ℤ◌, ◌*ℤ◌, ◌≤ℤ◌, ◌<ℤ◌}
use Rattle.std.specs.Int.{int_max, int_min}
use Rattle.clock_fraction.specs.declared.line.Line.{Line}
use Rattle.clock_fraction.specs.declared.pair_map.PairMap.{PairMap}

-- f is the greatest whole number at or below y0 + p * (x - x0) / q
pub record IsFloorAt (line : Line) (x : ℕ) (f : ℤ) : Type 0 where
  pub at_or_below : ((f -ℤ pos line.y0) *ℤ pos line.slope.q) ≤ℤ (pos line.slope.p *ℤ (pos x -ℤ pos line.x0))
  pub greatest : (pos line.slope.p *ℤ (pos x -ℤ pos line.x0)) <ℤ ((f -ℤ pos line.y0 +ℤ pos 1) *ℤ pos line.slope.q)

-- h is the greatest whole number at or below the mean of s and f
pub record IsHalf (s f h : ℤ) : Type 0 where
  pub at_or_below : (pos 2 *ℤ h) ≤ℤ (s +ℤ f)
  pub greatest : (s +ℤ f) <ℤ (pos 2 *ℤ (h +ℤ pos 1))

-- t is the mean of both lines' heights at x, rounded down, and drawn into the times that there are
pub record IsMapAt (map : PairMap) (x t : ℕ) : Type 0 where
  pub steep : ℤ
  pub flat : ℤ
  pub half : ℤ
  pub steep_is : IsFloorAt map.steep x steep
  pub flat_is : IsFloorAt map.flat x flat
  pub half_is : IsHalf steep flat half
  pub time_is : pos t ≡ int_max (pos 0) (int_min half (pos (2 ^ 62 - 1)))
