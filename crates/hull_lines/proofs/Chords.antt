-- Contradictions among points, by the slopes of chords.
use Rattle.std.proofs.Common.{◌≡◌, ℕ, ◌+◌, ◌-◌, ◌*◌, ◌<◌, ◌≤◌, arith, sym, subst, ap, suc, List, Some, mul-le-mul_right, mul-le-mul_left}
use Rattle.std.specs.Prelude.{All, slice_get}
use Rattle.std.proofs.lemmas.Option.{get_or_from_slice_get, slice_get_within}
use Rattle.hull_lines.specs.declared.point.ClockPoint.{ClockPoint}
use Rattle.hull_lines.specs.declared.outcome.Bound.{Bound}
use Rattle.hull_lines.specs.declared.outcome.Bound.TheVariants.{Fixed, Pair}
use Rattle.hull_lines.specs.declared.outcome.Certificate.{Certificate}
use Rattle.hull_lines.specs.declared.outcome.Certificate.TheVariants.{Meet, Apart}
use Rattle.hull_lines.specs.declared.range.SlopeRange.{SlopeRange}
use Rattle.hull_lines.specs.Between.{IsApart}
use Rattle.hull_lines.specs.Certificates.{Chord, AreAt, IsContradiction, IsFromAbove, IsFromBelow, IsSteeper}
use Rattle.hull_lines.specs.Ranges.{IsGreatestSide, IsLeastSide}
use Rattle.hull_lines.specs.Slopes.{Passes, IsAdmissible}

all_at : (P : ClockPoint → Type 0) (xs : List ClockPoint) (i : ℕ) (x : ClockPoint) → All P xs → slice_get xs i ≡ Some x → P x
all_at P xs i x all at = subst P (get_or_from_slice_get xs i x x at) (all i x (slice_get_within xs i x at))

-- an admissible slope passes the points at any two places
pub passes_at : (lower upper : List ClockPoint) (drift p q i j : ℕ) (l u : ClockPoint) → IsAdmissible lower upper drift p q → AreAt lower upper i j l u → Passes p q l u
passes_at lower upper drift p q i j l u a at = all_at (Passes p q l) upper j u (all_at (λ v. All (Passes p q v) upper) lower i l a.passes at.lower_at) at.upper_at

-- p / q isn't less than the slope of the chord, which goes on
record IsOver (p q : ℕ) (c : Chord) : Type 0 where
  goes_on : c.x1 < c.x2
  over : q * c.y2 + p * c.x1 ≤ q * c.y1 + p * c.x2

-- p / q isn't greater than the slope of the chord, which goes on
record IsUnder (p q : ℕ) (c : Chord) : Type 0 where
  goes_on : c.x1 < c.x2
  under : p * c.x2 + q * c.y1 ≤ p * c.x1 + q * c.y2

over_bound : (lower upper : List ClockPoint) (drift p q : ℕ) (bound : Bound) (c : Chord) → IsAdmissible lower upper drift p q → IsFromBelow lower upper drift bound c → IsOver p q c
over_bound lower upper drift p q Fixed c a e = subst (IsOver p q) (sym e) (record { goes_on = omega arith; over = omega (arith, a.not_slow) })
over_bound lower upper drift p q (Pair i j) c a (l, u, at, later, e) = let m = passes_at lower upper drift p q i j l u a at in subst (IsOver p q) (sym e) (record { goes_on = later; over = omega (arith, m) })

under_bound : (lower upper : List ClockPoint) (drift p q : ℕ) (bound : Bound) (c : Chord) → IsAdmissible lower upper drift p q → IsFromAbove lower upper drift bound c → IsUnder p q c
under_bound lower upper drift p q Fixed c a e = subst (IsUnder p q) (sym e) (record { goes_on = omega arith; under = omega (arith, a.not_fast) })
under_bound lower upper drift p q (Pair i j) c a (l, u, at, later, e) = let m = passes_at lower upper drift p q i j l u a at in subst (IsUnder p q) (sym e) (record { goes_on = later; under = omega (arith, m) })

-- the first chord is the steeper one, by the runs m and k
steeper_out : (c d : Chord) (m k : ℕ) → c.x2 ≡ c.x1 + m → d.x2 ≡ d.x1 + k → IsSteeper c d → c.y1 * k + d.y2 * m < c.y2 * k + d.y1 * m
steeper_out c d m k ec ed h =
    let a = ap (λ n. d.y1 * n) ec in let b = ap (λ n. d.y2 * n) ec in
    let e = ap (λ n. c.y1 * n) ed in let f = ap (λ n. c.y2 * n) ed in
    omega (arith, h, a, b, e, f)

steeper_in : (c d : Chord) (m k : ℕ) → c.x2 ≡ c.x1 + m → d.x2 ≡ d.x1 + k → c.y1 * k + d.y2 * m < c.y2 * k + d.y1 * m → IsSteeper c d
steeper_in c d m k ec ed h =
    let a = ap (λ n. d.y1 * n) ec in let b = ap (λ n. d.y2 * n) ec in
    let e = ap (λ n. c.y1 * n) ed in let f = ap (λ n. c.y2 * n) ed in
    omega (arith, h, a, b, e, f)

-- no slope lies over a chord and under a less steep one
not_both : (p q y1 y2 m z1 z2 k : ℕ) → 0 < q → q * y2 ≤ q * y1 + p * m → p * k + q * z1 ≤ q * z2 → y1 * k + z2 * m < y2 * k + z1 * m → ⊥
not_both p q y1 y2 m z1 z2 k some over under steeper =
    let a = mul-le-mul_right k over in
    let b = mul-le-mul_right m under in
    let s : suc (y1 * k + z2 * m) ≤ y2 * k + z1 * m = omega arith in
    let d = mul-le-mul_right q s in
    omega (arith, a, b, d)

none_between : (p q : ℕ) (c d : Chord) → 0 < q → IsOver p q c → IsUnder p q d → IsSteeper c d → ⊥
none_between p q c d some over under steeper =
    let m : ℕ = c.x2 - c.x1 in
    let k : ℕ = d.x2 - d.x1 in
    let ec : c.x2 ≡ c.x1 + m = omega (arith, over.goes_on) in
    let ed : d.x2 ≡ d.x1 + k = omega (arith, under.goes_on) in
    let e = ap (λ n. p * n) ec in
    let f = ap (λ n. p * n) ed in
    let g : q * c.y2 ≤ q * c.y1 + p * m = omega (arith, over.over, e) in
    let h : p * k + q * d.y1 ≤ q * d.y2 = omega (arith, under.under, f) in
    not_both p q c.y1 c.y2 m d.y1 d.y2 k some g h (steeper_out c d m k ec ed steeper)

-- where points contradict each other, no slope is admissible
pub excludes : (lower upper : List ClockPoint) (drift : ℕ) (c : Certificate) (p q : ℕ) → IsContradiction lower upper drift c → ¬ IsAdmissible lower upper drift p q
excludes lower upper drift (Meet i j) p q (l, u, at, one_time, below) a =
    let m = passes_at lower upper drift p q i j l u a at in
    let e = ap (λ n. p * n) one_time in
    let s : suc u.y ≤ l.y = omega (arith, below) in
    let k = mul-le-mul_left q s in
    let some : 0 < q = a.is_fraction in
    omega (arith, m, e, k)
excludes lower upper drift (Apart least greatest) p q (c, d, below, above, steeper) a =
    none_between p q c d a.is_fraction (over_bound lower upper drift p q least c a below) (under_bound lower upper drift p q greatest d a above) steeper

-- sides of a range that has no slopes contradict each other
pub sides_contradict : (lower upper : List ClockPoint) (drift : ℕ) (range : SlopeRange) (c : Certificate) → IsLeastSide lower upper drift range.least → IsGreatestSide lower upper drift range.greatest → IsApart range c → IsContradiction lower upper drift c
sides_contradict lower upper drift range cert low high apart =
    let c : Chord = low.chord in
    let d : Chord = high.chord in
    let m : ℕ = range.least.slope.q in
    let k : ℕ = range.greatest.slope.q in
    let e = ap (λ n. n * k) low.rise in
    let f = ap (λ n. n * m) high.rise in
    let less : range.greatest.slope.p * m < range.least.slope.p * k = apart.no_slope in
    let steeper : IsSteeper c d = steeper_in c d m k (sym low.run) (sym high.run) (omega (arith, e, f, less)) in
    subst (IsContradiction lower upper drift) (sym apart.bounds) (c, d, low.from, high.from, steeper)
