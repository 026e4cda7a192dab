-- A range that is narrowed by pairs until its greatest and its least slope pass all of them has the slopes that pass all pairs, and no others.
use Rattle.std.proofs.Common.{◌≡◌, ℕ, ◌+◌, ◌-◌, ◌*◌, ◌<◌, ◌≤◌, arith, ap, sym, subst, List, Some, get_or, ⊎_elim, mul-le-mul_right, lt_of_not-le, suc}
use Rattle.std.specs.Prelude.{All, slice_get}
use Rattle.std.proofs.lemmas.List.Elements.{All-get_or}
use Rattle.std.proofs.lemmas.Option.{get_or_from_slice_get, slice_get_within}
use native.Mathlib.Decide.{dec_le}
use mathlib.Core.Logic.{dite}
use Rattle.clock_fraction.specs.declared.slope.Slope.{Slope}
use Rattle.hull_lines.specs.declared.point.ClockPoint.{ClockPoint}
use Rattle.hull_lines.specs.declared.range.SlopeRange.{SlopeRange}
use Rattle.hull_lines.specs.declared.range.PointPair.{PointPair}
use Rattle.hull_lines.specs.declared.outcome.Certificate.{Certificate}
use Rattle.hull_lines.specs.Certificates.{IsContradiction}
use Rattle.hull_lines.specs.Ranges.{IsBetween, IsGreatestSide, IsLeastSide, IsNarrowed, IsRange, IsWithinDrift}
use Rattle.hull_lines.specs.Slopes.{Passes}
use Rattle.hull_lines.specs.Worst.{IsNarrowedByOne, IsRefusedByOne, IsTight, PassesAll}
use Rattle.hull_lines.proofs.Narrowing.{fractions_trans}
use Rattle.hull_lines.proofs.Seen.{all_none, greatest_of_pair, least_of_pair, refused_row}

-- p / q passes all pairs
abbrev pub Through : List ClockPoint → List ClockPoint → ℕ → ℕ → Type 0
Through lower upper p q = All (λ l. All (Passes p q l) upper) lower

-- the range has all slopes of the drift's that pass all pairs, and its sides are the drift's or those of pairs
pub record PartSeen (lower upper : List ClockPoint) (drift : ℕ) (start new : SlopeRange) : Type 0 where
  pub begins : IsWithinDrift drift start
  pub keeps : (p q : ℕ) → 0 < q → IsBetween start p q → Through lower upper p q → IsBetween new p q
  pub drops : (p q : ℕ) → 0 < q → IsBetween new p q → IsBetween start p q
  pub least : IsLeastSide lower upper drift new.least
  pub greatest : IsGreatestSide lower upper drift new.greatest

-- what passes all pairs passes the one at these places
at_place : (P : ClockPoint → Type 0) (xs : List ClockPoint) (i : ℕ) (x : ClockPoint) → slice_get xs i ≡ Some x → All P xs → P x
at_place P xs i x e a = subst P (get_or_from_slice_get xs i x x e) (All-get_or P xs i x (slice_get_within xs i x e) a)

pub part_more : (lower upper : List ClockPoint) (drift : ℕ) (start mid new : SlopeRange) → PartSeen lower upper drift start mid → IsNarrowedByOne lower upper mid new → PartSeen lower upper drift start new
part_more lower upper drift start mid new seen w =
    let pair : PointPair = w.0 in
    let n : IsNarrowed mid pair new = w.2 in
    record {
      begins = seen.begins;
      keeps = λ p q h b a. n.keeps p q h (seen.keeps p q h b a) (at_place (Passes p q pair.lower) upper pair.upper_place pair.upper w.1.upper_at (at_place (λ l. All (Passes p q l) upper) lower pair.lower_place pair.lower w.1.lower_at a));
      drops = λ p q h b. seen.drops p q h (n.drops p q h b);
      least = ⊎_elim (λ e. subst (IsLeastSide lower upper drift) (sym e) seen.least) (λ side. least_of_pair lower upper drift pair.lower_place pair.upper_place pair.lower pair.upper new.least w.1 side) n.least;
      greatest = ⊎_elim (λ e. subst (IsGreatestSide lower upper drift) (sym e) seen.greatest) (λ side. greatest_of_pair lower upper drift pair.lower_place pair.upper_place pair.lower pair.upper new.greatest w.1 side) n.greatest;
    }

-- over plain numbers: a later upper point that c / d passes is passed by each p / q that isn't greater
later_between : (p q c d x y r z w : ℕ) → 0 < d → x + r ≡ z → p * d ≤ c * q → c * z + d * y ≤ c * x + d * w → p * z + q * y ≤ p * x + q * w
later_between p q c d x y r z w some run order passed =
    dite (dec_le (p * z + q * y) (p * x + q * w)) (λ y. y)
    (λ n. let over : suc (p * x + q * w) ≤ p * z + q * y = lt_of_not-le n in
    let a = mul-le-mul_right d over in
    let b = mul-le-mul_right q passed in
    let k = mul-le-mul_right r order in
    let e = ap (λ n. p * n * d) run in
    let f = ap (λ n. c * n * q) run in
    absurd (omega (arith, a, b, k, e, f, some)))

-- an earlier upper point that a / b passes is passed by each p / q that isn't less
earlier_between : (p q a b x y r z w : ℕ) → 0 < b → z + r ≡ x → a * q ≤ p * b → a * z + b * y ≤ a * x + b * w → p * z + q * y ≤ p * x + q * w
earlier_between p q a b x y r z w some run order passed =
    dite (dec_le (p * z + q * y) (p * x + q * w)) (λ y. y)
    (λ n. let over : suc (p * x + q * w) ≤ p * z + q * y = lt_of_not-le n in
    let m = mul-le-mul_right b over in
    let k = mul-le-mul_right q passed in
    let l = mul-le-mul_right r order in
    let e = ap (λ n. p * n * b) run in
    let f = ap (λ n. a * n * q) run in
    absurd (omega (arith, m, k, l, e, f, some)))

-- what two slopes pass, each slope between them passes
between_passes : (least greatest : Slope) (p q : ℕ) (l u : ClockPoint) → least.p * q ≤ p * least.q → p * greatest.q ≤ greatest.p * q → Passes greatest.p greatest.q l u → Passes least.p least.q l u → Passes p q l u
between_passes least greatest p q l u at_least at_most steep flat =
    dite (dec_le l.x u.x)
    (λ le. later_between p q greatest.p greatest.q l.x l.y (u.x - l.x) u.x u.y greatest.q_above (omega (arith, le)) at_most steep)
    (λ n. let gt : u.x < l.x = lt_of_not-le n in earlier_between p q least.p least.q l.x l.y (l.x - u.x) u.x u.y least.q_above (omega (arith, gt)) at_least flat)

-- so do all pairs
all_between : (lower upper : List ClockPoint) (least greatest : Slope) (p q : ℕ) → least.p * q ≤ p * least.q → p * greatest.q ≤ greatest.p * q → PassesAll lower upper greatest → PassesAll lower upper least → Through lower upper p q
all_between lower upper least greatest p q at_least at_most steep flat =
    λ i d lt. λ j e le. between_passes least greatest p q (get_or lower i d) (get_or upper j e) at_least at_most (steep i d lt j e le) (flat i d lt j e le)

through_all : (lower upper : List ClockPoint) (range : SlopeRange) (p q : ℕ) → 0 < q → IsTight lower upper range → IsBetween range p q → Through lower upper p q
through_all lower upper range p q some tight between =
    ⊎_elim
    (λ none. let order = fractions_trans range.least.slope.p range.least.slope.q p q range.greatest.slope.p range.greatest.slope.q some between.at_least between.at_most in absurd (omega (arith, none, order)))
    (λ both. all_between lower upper range.least.slope range.greatest.slope p q between.at_least between.at_most both.0 both.1) tight

-- a range that no pair narrows further is the one
pub part_all : (lower upper : List ClockPoint) (drift : ℕ) (start new : SlopeRange) → PartSeen lower upper drift start new → IsTight lower upper new → IsRange lower upper drift new
part_all lower upper drift start new seen tight =
    let w = seen.begins in
    let lp : start.least.slope.p ≡ 1_000_000 - drift = omega (arith, w.least_p) in
    record {
      keeps = λ p q a. seen.keeps p q a.is_fraction (record { at_least = rw (lp, w.least_q) a.not_slow; at_most = rw (w.greatest_p, w.greatest_q) a.not_fast }) a.passes;
      admits = λ p q h b. let s = seen.drops p q h b in record {
        is_fraction = h;
        not_slow = rw (lp, w.least_q) at s.at_least;
        not_fast = rw (w.greatest_p, w.greatest_q) at s.at_most;
        passes = through_all lower upper new p q h tight b;
      };
      least = seen.least;
      greatest = seen.greatest;
    }

-- before any pair, the range is the drift's
pub part_none : (lower upper : List ClockPoint) (drift : ℕ) (start : SlopeRange) → IsWithinDrift drift start → PartSeen lower upper drift start start
part_none lower upper drift start w = let seen = all_none lower upper drift start w in record {
  begins = w;
  keeps = λ p q h b a. b;
  drops = λ p q h b. b;
  least = seen.least;
  greatest = seen.greatest;
}

-- a pair that refuses contradicts
pub refused_one : (lower upper : List ClockPoint) (drift : ℕ) (c : Certificate) → drift ≤ 1_000_000 → IsRefusedByOne lower upper c → IsContradiction lower upper drift c
refused_one lower upper drift c small w =
    let pair : PointPair = w.0 in
    refused_row lower upper drift pair.lower_place pair.lower c small w.1.lower_at (pair.upper_place, pair.upper, w.1.upper_at, w.2)
