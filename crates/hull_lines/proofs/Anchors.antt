-- The highest and the lowest of the lines of one slope through the points that were seen so far.
use Rattle.std.proofs.Common.{◌≡◌, ℕ, arith, refl, List, length, get_or}
use Rattle.std.specs.Prelude.{Contains}
use Rattle.std.specs.List.{AllWithin}
use Rattle.clock_fraction.specs.declared.line.Line.{Line}
use Rattle.clock_fraction.specs.declared.slope.Slope.{Slope}
use Rattle.clock_fraction.specs.ClockMap.{IsFloorAt}
use Rattle.clock_fraction.proofs.Heights.{floors_ordered}
use Rattle.hull_lines.specs.declared.point.ClockPoint.{ClockPoint}
use Rattle.hull_lines.specs.Lines.{through, IsHighest, IsLowest}
use Rattle.hull_lines.specs.Worst.{IsNotHigher}

-- of the first n points and itself, the best is highest
pub record IsHighestSeen (points : List ClockPoint) (slope : Slope) (n : ℕ) (best : ClockPoint) : Type 0 where
  pub among : Contains points best
  pub bound : AllWithin (λ v. IsNotHigher slope v best) points 0 n

-- of the first n points and itself, the best is lowest
pub record IsLowestSeen (points : List ClockPoint) (slope : Slope) (n : ℕ) (best : ClockPoint) : Type 0 where
  pub among : Contains points best
  pub bound : AllWithin (λ v. IsNotHigher slope best v) points 0 n

-- the line through the highest of all points is the highest at every time
pub highest_is : (points : List ClockPoint) (best : ClockPoint) (line : Line) (n : ℕ) → n ≡ length points → line.x0 ≡ best.x → line.y0 ≡ best.y → IsHighestSeen points line.slope n best → IsHighest points line.slope line
highest_is points best line n e ex ey seen = record {
  slope_is = refl;
  height = λ x h f m.
      let floor : IsFloorAt (through line.slope best) x f = record { at_or_below = rw (← ex, ← ey) m.at_or_below; greatest = rw (← ex, ← ey) m.greatest } in
      record {
        point = best;
        among = seen.among;
        reached = floor;
        bound = λ k d l g o.
            let b : IsNotHigher line.slope (get_or points k d) best = seen.bound k d (omega arith) (omega arith) in
            floors_ordered (through line.slope (get_or points k d)) (through line.slope best) x x g f refl refl (omega (arith, b)) o floor;
      };
}

-- the line through the lowest of all points is the lowest at every time
pub lowest_is : (points : List ClockPoint) (best : ClockPoint) (line : Line) (n : ℕ) → n ≡ length points → line.x0 ≡ best.x → line.y0 ≡ best.y → IsLowestSeen points line.slope n best → IsLowest points line.slope line
lowest_is points best line n e ex ey seen = record {
  slope_is = refl;
  height = λ x h f m.
      let floor : IsFloorAt (through line.slope best) x f = record { at_or_below = rw (← ex, ← ey) m.at_or_below; greatest = rw (← ex, ← ey) m.greatest } in
      record {
        point = best;
        among = seen.among;
        reached = floor;
        bound = λ k d l g o.
            let b : IsNotHigher line.slope best (get_or points k d) = seen.bound k d (omega arith) (omega arith) in
            floors_ordered (through line.slope best) (through line.slope (get_or points k d)) x x f g refl refl (omega (arith, b)) floor o;
      };
}
