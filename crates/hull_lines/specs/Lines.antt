-- The steepest and the flattest line between lower and upper points (Duda, Harrus, Haddad and Bernard 1987). Heights are rounded
-- down, and of the lines of one slope the highest over the lower points, or the lowest under the upper points, is taken at each x.
use Rattle.std.specs.Prelude.{ℕ, ℤ, ◌≡◌, ◌+◌, ◌*◌, ◌<◌, ◌≤◌, ◌^◌, ◌≤ℤ◌, List, All, Contains}
use Rattle.clock_fraction.specs.declared.line.Line.{Line}
use Rattle.clock_fraction.specs.declared.slope.Slope.{Slope}
use Rattle.clock_fraction.specs.ClockMap.{IsFloorAt}
use Rattle.hull_lines.specs.declared.point.ClockPoint.{ClockPoint}
use Rattle.hull_lines.specs.Slopes.{IsAdmissible}

-- the line of this slope through this point
abbrev pub through : Slope → ClockPoint → Line
through slope point = record { x0 = point.x; y0 = point.y; slope = slope; x0_below = point.x_below; y0_below = point.y_below }

-- the line of this slope through the first point is higher than that through the second
abbrev pub IsHigher : Slope → ClockPoint → ClockPoint → Type 0
IsHigher slope a b = slope.q * b.y + slope.p * a.x < slope.q * a.y + slope.p * b.x

-- f is the greatest of the heights at x of the lines of this slope through the points
pub record IsHighestAt (points : List ClockPoint) (slope : Slope) (x : ℕ) (f : ℤ) : Type 0 where
  pub point : ClockPoint
  pub among : Contains points point
  pub reached : IsFloorAt (through slope point) x f
  pub bound : All (λ l. (g : ℤ) → IsFloorAt (through slope l) x g → g ≤ℤ f) points

-- f is the least of the heights at x of the lines of this slope through the points
pub record IsLowestAt (points : List ClockPoint) (slope : Slope) (x : ℕ) (f : ℤ) : Type 0 where
  pub point : ClockPoint
  pub among : Contains points point
  pub reached : IsFloorAt (through slope point) x f
  pub bound : All (λ u. (g : ℤ) → IsFloorAt (through slope u) x g → f ≤ℤ g) points

-- the line has this slope, and at every time it is the highest of those through the points
pub record IsHighest (points : List ClockPoint) (slope : Slope) (line : Line) : Type 0 where
  pub slope_is : line.slope ≡ slope
  pub height : (x : ℕ) → x < 2 ^ 62 → (f : ℤ) → IsFloorAt line x f → IsHighestAt points slope x f

-- the line has this slope, and at every time it is the lowest of those through the points
pub record IsLowest (points : List ClockPoint) (slope : Slope) (line : Line) : Type 0 where
  pub slope_is : line.slope ≡ slope
  pub height : (x : ℕ) → x < 2 ^ 62 → (f : ℤ) → IsFloorAt line x f → IsLowestAt points slope x f

-- the line's slope is the greatest that is admissible, and it is the highest through the lower points
pub record IsSteep (lower upper : List ClockPoint) (drift : ℕ) (line : Line) : Type 0 where
  pub admissible : IsAdmissible lower upper drift line.slope.p line.slope.q
  pub greatest : (p q : ℕ) → IsAdmissible lower upper drift p q → p * line.slope.q ≤ line.slope.p * q
  pub highest : IsHighest lower line.slope line

-- the line's slope is the least that is admissible, and it is the lowest through the upper points
pub record IsFlat (lower upper : List ClockPoint) (drift : ℕ) (line : Line) : Type 0 where
  pub admissible : IsAdmissible lower upper drift line.slope.p line.slope.q
  pub least : (p q : ℕ) → IsAdmissible lower upper drift p q → line.slope.p * q ≤ p * line.slope.q
  pub lowest : IsLowest upper line.slope line
