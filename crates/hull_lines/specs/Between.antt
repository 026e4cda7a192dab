-- What lines come of a range of slopes (this project's own).
use Rattle.std.specs.Prelude.{◌≡◌, ◌*◌, ◌<◌, ◌≤◌, List}
use Rattle.clock_fraction.specs.declared.pair_map.PairMap.{PairMap}
use Rattle.hull_lines.specs.declared.point.ClockPoint.{ClockPoint}
use Rattle.hull_lines.specs.declared.outcome.Certificate.{Certificate}
use Rattle.hull_lines.specs.declared.outcome.Certificate.TheVariants.{Apart}
use Rattle.hull_lines.specs.declared.range.SlopeRange.{SlopeRange}
use Rattle.hull_lines.specs.Lines.{IsHighest, IsLowest}

-- the range has slopes; the steep line has the greatest of them, and the flat line the least
pub record IsMapBetween (lower upper : List ClockPoint) (range : SlopeRange) (map : PairMap) : Type 0 where
  pub some_slope : range.least.slope.p * range.greatest.slope.q ≤ range.greatest.slope.p * range.least.slope.q
  pub steep : IsHighest lower range.greatest.slope map.steep
  pub flat : IsLowest upper range.least.slope map.flat

-- the range has no slopes, and the certificate says what bounds it
pub record IsApart (range : SlopeRange) (certificate : Certificate) : Type 0 where
  pub no_slope : range.greatest.slope.p * range.least.slope.q < range.least.slope.p * range.greatest.slope.q
  pub bounds : certificate ≡ Apart range.least.bound range.greatest.bound
