-- The pair of points that a slope passes least, and how ranges of slopes are narrowed by such pairs (after Dinkelbach 1967, "On nonlinear fractional programming": of all pairs that a slope fails, the one that it fails most gives the next slope).
use Rattle.std.specs.Prelude.{◌+◌, ◌*◌, ◌<◌, ◌≤◌, ◌⊎◌, List, All}
use Rattle.clock_fraction.specs.declared.slope.Slope.{Slope}
use Rattle.hull_lines.specs.declared.point.ClockPoint.{ClockPoint}
use Rattle.hull_lines.specs.declared.outcome.Certificate.{Certificate}
use Rattle.hull_lines.specs.declared.range.PointPair.{PointPair}
use Rattle.hull_lines.specs.declared.range.SlopeRange.{SlopeRange}
use Rattle.hull_lines.specs.Certificates.{AreAt}
use Rattle.hull_lines.specs.Ranges.{IsNarrowed, IsPairRefusal}
use Rattle.hull_lines.specs.Slopes.{Passes}

-- the line of this slope through the first point isn't higher than that through the second
abbrev pub IsNotHigher : Slope → ClockPoint → ClockPoint → Type 0
IsNotHigher slope a b = slope.q * a.y + slope.p * b.x ≤ slope.q * b.y + slope.p * a.x

-- the slope passes each pair of a lower and an upper point
abbrev pub PassesAll : List ClockPoint → List ClockPoint → Slope → Type 0
PassesAll lower upper slope = All (λ l. All (Passes slope.p slope.q l) upper) lower

-- both points of the pair stand at its places
abbrev pub IsPairOf : List ClockPoint → List ClockPoint → PointPair → Type 0
IsPairOf lower upper pair = AreAt lower upper pair.lower_place pair.upper_place pair.lower pair.upper

-- one of the pairs narrows the range so
abbrev pub IsNarrowedByOne : List ClockPoint → List ClockPoint → SlopeRange → SlopeRange → Type 0
IsNarrowedByOne lower upper range new = (pair : PointPair) × IsPairOf lower upper pair × IsNarrowed range pair new

-- no slope above 0 passes one of the pairs
abbrev pub IsRefusedByOne : List ClockPoint → List ClockPoint → Certificate → Type 0
IsRefusedByOne lower upper c = (pair : PointPair) × IsPairOf lower upper pair × IsPairRefusal pair c

-- there are no slopes in the range
abbrev pub HasNoSlope : SlopeRange → Type 0
HasNoSlope range = range.greatest.slope.p * range.least.slope.q < range.least.slope.p * range.greatest.slope.q

-- no pair narrows the range further: it has no slopes, or the greatest and the least pass all pairs
abbrev pub IsTight : List ClockPoint → List ClockPoint → SlopeRange → Type 0
IsTight lower upper range = HasNoSlope range ⊎ (PassesAll lower upper range.greatest.slope × PassesAll lower upper range.least.slope)
