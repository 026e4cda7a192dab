-- What comes of the range of slopes that pass all points.
use Rattle.std.proofs.Common.{ℕ, ◌-◌, ◌*◌, ◌<◌, ◌≤◌, arith, sym, subst, List, length, mul-le-mul_right}
use Rattle.clock_fraction.specs.declared.line.Line.{Line}
use Rattle.clock_fraction.specs.declared.pair_map.PairMap.{PairMap}
use Rattle.clock_fraction.specs.declared.slope.Slope.{Slope}
use Rattle.hull_lines.specs.declared.point.ClockPoint.{ClockPoint}
use Rattle.hull_lines.specs.declared.outcome.Certificate.{Certificate}
use Rattle.hull_lines.specs.declared.outcome.Fit.{Fit}
use Rattle.hull_lines.specs.declared.outcome.Fit.TheVariants.{Map, Absent, Refused}
use Rattle.hull_lines.specs.declared.range.SlopeRange.{SlopeRange}
use Rattle.hull_lines.specs.Between.{IsApart, IsMapBetween}
use Rattle.hull_lines.specs.Certificates.{IsContradiction}
use Rattle.hull_lines.specs.Lines.{IsFlat, IsHighest, IsLowest, IsSteep}
use Rattle.hull_lines.specs.Outcomes.{IfMap, IfRefused, IsAbsent, IsMap, IsMapOf, IsRefusal}
use Rattle.hull_lines.specs.Ranges.{IsRange}
use Rattle.hull_lines.specs.Slopes.{IsAdmissible, IsUsable}
use Rattle.hull_lines.proofs.Chords.{excludes, sides_contradict}

steep_is : (lower upper : List ClockPoint) (drift : ℕ) (range : SlopeRange) (line : Line) → IsRange lower upper drift range
    → range.least.slope.p * range.greatest.slope.q ≤ range.greatest.slope.p * range.least.slope.q → IsHighest lower range.greatest.slope line → IsSteep lower upper drift line
steep_is lower upper drift range line r some h =
    let s : Slope = range.greatest.slope in
    let a : IsAdmissible lower upper drift s.p s.q = r.admits s.p s.q s.q_above (record { at_least = some; at_most = omega arith }) in
    record {
      admissible = subst (λ (t : Slope). IsAdmissible lower upper drift t.p t.q) (sym h.slope_is) a;
      greatest = λ p q b. subst (λ (t : Slope). p * t.q ≤ t.p * q) (sym h.slope_is) (r.keeps p q b).at_most;
      highest = subst (λ (t : Slope). IsHighest lower t line) (sym h.slope_is) h;
    }

flat_is : (lower upper : List ClockPoint) (drift : ℕ) (range : SlopeRange) (line : Line) → IsRange lower upper drift range
    → range.least.slope.p * range.greatest.slope.q ≤ range.greatest.slope.p * range.least.slope.q → IsLowest upper range.least.slope line → IsFlat lower upper drift line
flat_is lower upper drift range line r some h =
    let s : Slope = range.least.slope in
    let a : IsAdmissible lower upper drift s.p s.q = r.admits s.p s.q s.q_above (record { at_least = omega arith; at_most = some }) in
    record {
      admissible = subst (λ (t : Slope). IsAdmissible lower upper drift t.p t.q) (sym h.slope_is) a;
      least = λ p q b. subst (λ (t : Slope). t.p * q ≤ p * t.q) (sym h.slope_is) (r.keeps p q b).at_least;
      lowest = subst (λ (t : Slope). IsLowest upper t line) (sym h.slope_is) h;
    }

-- an admissible slope is above 0
rises : (lower upper : List ClockPoint) (drift p q : ℕ) → drift ≤ 10000 → IsAdmissible lower upper drift p q → 0 < p
rises lower upper drift p q small a =
    let least : 990000 ≤ 1_000_000 - drift = omega (arith, small) in
    let k = mul-le-mul_right q least in
    omega (arith, k, a.not_slow, a.is_fraction)

map_is : (lower upper : List ClockPoint) (drift : ℕ) (range : SlopeRange) (map : PairMap) → 0 < length lower → 0 < length upper → drift ≤ 10000 → IsRange lower upper drift range → IsMapBetween lower upper range map → IsMapOf lower upper drift map
map_is lower upper drift range map l u small r b =
    let steep : IsSteep lower upper drift map.steep = steep_is lower upper drift range map.steep r b.some_slope b.steep in
    let flat : IsFlat lower upper drift map.flat = flat_is lower upper drift range map.flat r b.some_slope b.flat in
    record {
      some_lower = l;
      some_upper = u;
      steep = steep;
      flat = flat;
      steep_rises = rises lower upper drift map.steep.slope.p map.steep.slope.q small steep.admissible;
      flat_rises = rises lower upper drift map.flat.slope.p map.flat.slope.q small flat.admissible;
    }

pub fit_map : (lower upper : List ClockPoint) (drift : ℕ) (range : SlopeRange) (fit : Fit) → 0 < length lower → 0 < length upper → drift ≤ 10000 → IsRange lower upper drift range → IfMap fit (IsMapBetween lower upper range) → IfMap fit (IsMapOf lower upper drift)
fit_map lower upper drift range (Map map) l u small r b = map_is lower upper drift range map l u small r b
fit_map lower upper drift range (Absent n m) l u small r b = tt
fit_map lower upper drift range (Refused c) l u small r b = tt

pub refusal_is : (lower upper : List ClockPoint) (drift : ℕ) (c : Certificate) → 0 < length lower → 0 < length upper → IsContradiction lower upper drift c → IsRefusal lower upper drift c
refusal_is lower upper drift c l u h = record { some_lower = l; some_upper = u; contradiction = h; no_slope = λ p q. excludes lower upper drift c p q h }

pub fit_refused : (lower upper : List ClockPoint) (drift : ℕ) (range : SlopeRange) (fit : Fit) → 0 < length lower → 0 < length upper → IsRange lower upper drift range → IfRefused fit (IsApart range) → IfRefused fit (IsRefusal lower upper drift)
fit_refused lower upper drift range (Map map) l u r b = tt
fit_refused lower upper drift range (Absent n m) l u r b = tt
fit_refused lower upper drift range (Refused c) l u r b = refusal_is lower upper drift c l u (sides_contradict lower upper drift range c r.least r.greatest b)

pub refused_unusable : (lower upper : List ClockPoint) (drift : ℕ) (c : Certificate) → IsContradiction lower upper drift c → ¬ IsUsable lower upper drift
refused_unusable lower upper drift c h w = excludes lower upper drift c w.p w.q h w.slope

-- a map comes where the points are usable, and nowhere else
pub mapped_usable : (lower upper : List ClockPoint) (drift : ℕ) (fit : Fit) → IfMap fit (IsMapOf lower upper drift) → IsMap fit → IsUsable lower upper drift
mapped_usable lower upper drift (Map map) m h = record { some_lower = m.some_lower; some_upper = m.some_upper; p = map.steep.slope.p; q = map.steep.slope.q; slope = m.steep.admissible }
mapped_usable lower upper drift (Absent n m) k h = absurd h
mapped_usable lower upper drift (Refused c) m h = absurd h

pub usable_mapped : (lower upper : List ClockPoint) (drift : ℕ) (fit : Fit) → ¬ IsAbsent fit → IfRefused fit (IsRefusal lower upper drift) → IsUsable lower upper drift → IsMap fit
usable_mapped lower upper drift (Map map) some r w = tt
usable_mapped lower upper drift (Absent n m) some r w = absurd (some tt)
usable_mapped lower upper drift (Refused c) some r w = absurd (r.no_slope w.p w.q w.slope)
