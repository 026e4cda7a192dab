-- Contradictions among points, which a reader can check without the other points (this project's own).
use Rattle.std.specs.Prelude.{ℕ, ◌≡◌, ◌+◌, ◌-◌, ◌*◌, ◌<◌, List, Some, slice_get}
use Rattle.hull_lines.specs.declared.point.ClockPoint.{ClockPoint}
use Rattle.hull_lines.specs.declared.outcome.Bound.{Bound}
use Rattle.hull_lines.specs.declared.outcome.Bound.TheVariants.{Fixed, Pair}
use Rattle.hull_lines.specs.declared.outcome.Certificate.{Certificate}
use Rattle.hull_lines.specs.declared.outcome.Certificate.TheVariants.{Meet, Apart}

-- from (x1, y1) to (x2, y2)
pub record Chord : Type 0 where
  pub x1 : ℕ
  pub y1 : ℕ
  pub x2 : ℕ
  pub y2 : ℕ

abbrev pub chord : ℕ → ℕ → ℕ → ℕ → Chord
chord x1 y1 x2 y2 = record { x1 = x1; y1 = y1; x2 = x2; y2 = y2 }

-- the first chord has the greater slope: (y2 - y1) * (x2 - x1) is greater with its y and the other's x than the other way round
abbrev pub IsSteeper : Chord → Chord → Type 0
IsSteeper c d = c.y1 * d.x2 + c.y2 * d.x1 + d.y1 * c.x1 + d.y2 * c.x2 < c.y1 * d.x1 + c.y2 * d.x2 + d.y1 * c.x2 + d.y2 * c.x1

-- the lower and the upper point stand at these places
pub record AreAt (lower upper : List ClockPoint) (i j : ℕ) (l u : ClockPoint) : Type 0 where
  pub lower_at : slice_get lower i ≡ Some l
  pub upper_at : slice_get upper j ≡ Some u

-- no admissible slope is less than the chord's: that of 1 less the drift, or that from an upper point to a later lower one
abbrev pub IsFromBelow : List ClockPoint → List ClockPoint → ℕ → Bound → Chord → Type 0
IsFromBelow lower upper drift Fixed c = c ≡ chord 0 0 1_000_000 (1_000_000 - drift)
IsFromBelow lower upper drift (Pair i j) c = (l : ClockPoint) × (u : ClockPoint) × AreAt lower upper i j l u × (u.x < l.x) × (c ≡ chord u.x u.y l.x l.y)

-- no admissible slope is greater than the chord's: that of 1 and the drift, or that from a lower point to a later upper one
abbrev pub IsFromAbove : List ClockPoint → List ClockPoint → ℕ → Bound → Chord → Type 0
IsFromAbove lower upper drift Fixed c = c ≡ chord 0 0 1_000_000 (1_000_000 + drift)
IsFromAbove lower upper drift (Pair i j) c = (l : ClockPoint) × (u : ClockPoint) × AreAt lower upper i j l u × (l.x < u.x) × (c ≡ chord l.x l.y u.x u.y)

-- a lower point above an upper one at one time, or a bound from below that is greater than a bound from above
abbrev pub IsContradiction : List ClockPoint → List ClockPoint → ℕ → Certificate → Type 0
IsContradiction lower upper drift (Meet i j) = (l : ClockPoint) × (u : ClockPoint) × AreAt lower upper i j l u × (l.x ≡ u.x) × (u.y < l.y)
IsContradiction lower upper drift (Apart least greatest) = (c : Chord) × (d : Chord) × IsFromBelow lower upper drift least c × IsFromAbove lower upper drift greatest d × IsSteeper c d
