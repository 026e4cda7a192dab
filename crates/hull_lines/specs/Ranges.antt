-- Ranges of slopes, and how pairs of points narrow them (this project's own).
use Rattle.std.specs.Prelude.{ℕ, ◌≡◌, ◌+◌, ◌*◌, ◌<◌, ◌≤◌, ◌⊎◌, List, Some, All, slice_get}
use Rattle.hull_lines.specs.declared.point.ClockPoint.{ClockPoint}
use Rattle.hull_lines.specs.declared.outcome.Bound.TheVariants.{Fixed, Pair}
use Rattle.hull_lines.specs.declared.outcome.Certificate.{Certificate}
use Rattle.hull_lines.specs.declared.outcome.Certificate.TheVariants.{Meet, Apart}
use Rattle.hull_lines.specs.declared.range.Side.{Side}
use Rattle.hull_lines.specs.declared.range.SlopeRange.{SlopeRange}
use Rattle.hull_lines.specs.declared.range.PointPair.{PointPair}
use Rattle.hull_lines.specs.Certificates.{Chord, IsFromBelow, IsFromAbove}
use Rattle.hull_lines.specs.Slopes.{Passes, IsAdmissible}

-- p / q lies in the range
pub record IsBetween (range : SlopeRange) (p q : ℕ) : Type 0 where
  pub at_least : range.least.slope.p * q ≤ p * range.least.slope.q
  pub at_most : p * range.greatest.slope.q ≤ range.greatest.slope.p * q

-- the side is the bound from below that the points at these places set
pub record IsPairBelow (i j : ℕ) (l u : ClockPoint) (side : Side) : Type 0 where
  pub bound : side.bound ≡ Pair i j
  pub run : u.x + side.slope.q ≡ l.x
  pub rise : u.y + side.slope.p ≡ l.y

-- the side is the bound from above that the points at these places set
pub record IsPairAbove (i j : ℕ) (l u : ClockPoint) (side : Side) : Type 0 where
  pub bound : side.bound ≡ Pair i j
  pub run : l.x + side.slope.q ≡ u.x
  pub rise : l.y + side.slope.p ≡ u.y

-- the new range has the slopes of the old one that pass the pair, and its sides are the old ones or the pair's
pub record IsNarrowed (range : SlopeRange) (pair : PointPair) (new : SlopeRange) : Type 0 where
  pub keeps : (p q : ℕ) → 0 < q → IsBetween range p q → Passes p q pair.lower pair.upper → IsBetween new p q
  pub drops : (p q : ℕ) → 0 < q → IsBetween new p q → IsBetween range p q
  pub passes : (p q : ℕ) → 0 < q → IsBetween new p q → Passes p q pair.lower pair.upper
  pub least : (new.least ≡ range.least) ⊎ IsPairBelow pair.lower_place pair.upper_place pair.lower pair.upper new.least
  pub greatest : (new.greatest ≡ range.greatest) ⊎ IsPairAbove pair.lower_place pair.upper_place pair.lower pair.upper new.greatest

-- at one time the upper point is below the lower one
pub record Meets (i j : ℕ) (l u : ClockPoint) (c : Certificate) : Type 0 where
  pub certificate : c ≡ Meet i j
  pub one_time : l.x ≡ u.x
  pub below : u.y < l.y

-- a later upper point is below the lower one
pub record Falls (i j : ℕ) (l u : ClockPoint) (c : Certificate) : Type 0 where
  pub certificate : c ≡ Apart Fixed (Pair i j)
  pub later : l.x < u.x
  pub below : u.y < l.y

-- no slope above 0 passes the points at these places, for either reason
abbrev pub IsRefusedAt : ℕ → ℕ → ClockPoint → ClockPoint → Certificate → Type 0
IsRefusedAt i j l u c = Meets i j l u c ⊎ Falls i j l u c

abbrev pub IsPairRefusal : PointPair → Certificate → Type 0
IsPairRefusal pair c = IsRefusedAt pair.lower_place pair.upper_place pair.lower pair.upper c

-- the new range has the slopes of the old one that pass the lower point with each upper one
pub record IsRowNarrowed (range : SlopeRange) (l : ClockPoint) (i : ℕ) (upper : List ClockPoint) (new : SlopeRange) : Type 0 where
  pub keeps : (p q : ℕ) → 0 < q → IsBetween range p q → All (Passes p q l) upper → IsBetween new p q
  pub drops : (p q : ℕ) → 0 < q → IsBetween new p q → IsBetween range p q
  pub passes : (p q : ℕ) → 0 < q → IsBetween new p q → All (Passes p q l) upper
  pub least : (new.least ≡ range.least) ⊎ (j : ℕ) × (u : ClockPoint) × (slice_get upper j ≡ Some u) × IsPairBelow i j l u new.least
  pub greatest : (new.greatest ≡ range.greatest) ⊎ (j : ℕ) × (u : ClockPoint) × (slice_get upper j ≡ Some u) × IsPairAbove i j l u new.greatest

-- no slope passes the lower point with one of the upper points
abbrev pub IsRowRefusal : ClockPoint → ℕ → List ClockPoint → Certificate → Type 0
IsRowRefusal l i upper c = (j : ℕ) × (u : ClockPoint) × (slice_get upper j ≡ Some u) × IsRefusedAt i j l u c

-- the range is that of the drift
pub record IsWithinDrift (drift : ℕ) (range : SlopeRange) : Type 0 where
  pub least_bound : range.least.bound ≡ Fixed
  pub least_p : range.least.slope.p + drift ≡ 1_000_000
  pub least_q : range.least.slope.q ≡ 1_000_000
  pub greatest_bound : range.greatest.bound ≡ Fixed
  pub greatest_p : range.greatest.slope.p ≡ 1_000_000 + drift
  pub greatest_q : range.greatest.slope.q ≡ 1_000_000

-- the slope is that of a chord that bounds slopes from below
pub record IsLeastSide (lower upper : List ClockPoint) (drift : ℕ) (side : Side) : Type 0 where
  pub chord : Chord
  pub from : IsFromBelow lower upper drift side.bound chord
  pub run : chord.x1 + side.slope.q ≡ chord.x2
  pub rise : chord.y1 + side.slope.p ≡ chord.y2

-- the slope is that of a chord that bounds slopes from above
pub record IsGreatestSide (lower upper : List ClockPoint) (drift : ℕ) (side : Side) : Type 0 where
  pub chord : Chord
  pub from : IsFromAbove lower upper drift side.bound chord
  pub run : chord.x1 + side.slope.q ≡ chord.x2
  pub rise : chord.y1 + side.slope.p ≡ chord.y2

-- the range has the admissible slopes and no others
pub record IsRange (lower upper : List ClockPoint) (drift : ℕ) (range : SlopeRange) : Type 0 where
  pub keeps : (p q : ℕ) → IsAdmissible lower upper drift p q → IsBetween range p q
  pub admits : (p q : ℕ) → 0 < q → IsBetween range p q → IsAdmissible lower upper drift p q
  pub least : IsLeastSide lower upper drift range.least
  pub greatest : IsGreatestSide lower upper drift range.greatest
