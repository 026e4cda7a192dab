-- How a pair of points narrows a range of slopes.
use Rattle.std.proofs.Common.{◌≡◌, ℕ, ◌+◌, ◌*◌, ◌<◌, ◌≤◌, arith, refl, sym, subst, ap, suc, inl, inr, true, false, Ordering, Less, Equal, Greater, mul-le-mul_right, lt_of_not-le}
use Rattle.std.specs.Bool.{◌==◌}
use Rattle.std.specs.Ordering.{ordering_index}
use Rattle.std.proofs.lemmas.Bool.{false≢true}
use native.Mathlib.Decide.{dec_le}
use mathlib.Core.Logic.{dite}
use Rattle.hull_lines.specs.declared.point.ClockPoint.{ClockPoint}
use Rattle.hull_lines.specs.declared.range.Side.{Side}
use Rattle.hull_lines.specs.declared.range.SlopeRange.{SlopeRange}
use Rattle.hull_lines.specs.declared.range.PointPair.{PointPair}
use Rattle.hull_lines.specs.Ranges.{IsNarrowed, IsPairAbove, IsPairBelow}
use Rattle.hull_lines.specs.Slopes.{Passes}

-- a / b ≤ c / d ≤ e / f
pub fractions_trans : (a b c d e f : ℕ) → 0 < d → a * d ≤ c * b → c * f ≤ e * d → a * f ≤ e * b
fractions_trans a b c d e f pos_d h k = dite (dec_le (a * f) (e * b)) (λ y. y)
    (λ n. let m = mul-le-mul_right f h in let l = mul-le-mul_right b k in let s : suc (e * b) * d ≤ a * f * d = mul-le-mul_right d (lt_of_not-le n) in absurd (omega arith))

-- a slope at most that from the lower point to the later upper one passes them, and no other does
pub passes_later : (p q a b : ℕ) (l u : ClockPoint) → l.x + b ≡ u.x → l.y + a ≡ u.y → p * b ≤ a * q → Passes p q l u
passes_later p q a b l u run rise h = let m = ap (λ n. p * n) run in let k = ap (λ n. q * n) rise in omega (arith, m, k)

pub later_passed : (p q a b : ℕ) (l u : ClockPoint) → l.x + b ≡ u.x → l.y + a ≡ u.y → Passes p q l u → p * b ≤ a * q
later_passed p q a b l u run rise h = let m = ap (λ n. p * n) run in let k = ap (λ n. q * n) rise in omega (arith, m, k)

-- a slope at least that from the upper point to the later lower one passes them, and no other does
pub passes_earlier : (p q a b : ℕ) (l u : ClockPoint) → u.x + b ≡ l.x → u.y + a ≡ l.y → a * q ≤ p * b → Passes p q l u
passes_earlier p q a b l u run rise h = let m = ap (λ n. p * n) run in let k = ap (λ n. q * n) rise in omega (arith, m, k)

pub earlier_passed : (p q a b : ℕ) (l u : ClockPoint) → u.x + b ≡ l.x → u.y + a ≡ l.y → Passes p q l u → a * q ≤ p * b
earlier_passed p q a b l u run rise h = let m = ap (λ n. p * n) run in let k = ap (λ n. q * n) rise in omega (arith, m, k)

-- the pair's slope becomes the greatest
pub narrowed_to_greatest : (range : SlopeRange) (pair : PointPair) (side : Side) → IsPairAbove pair.lower_place pair.upper_place pair.lower pair.upper side
    → side.slope.p * range.greatest.slope.q < range.greatest.slope.p * side.slope.q → IsNarrowed range pair (record { least = range.least; greatest = side })
narrowed_to_greatest range pair side above lower = record {
  keeps = λ p q h b m. record { at_least = b.at_least; at_most = later_passed p q side.slope.p side.slope.q pair.lower pair.upper above.run above.rise m };
  drops = λ p q h b. record { at_least = b.at_least; at_most = fractions_trans p q side.slope.p side.slope.q range.greatest.slope.p range.greatest.slope.q side.slope.q_above b.at_most (omega arith) };
  passes = λ p q h b. passes_later p q side.slope.p side.slope.q pair.lower pair.upper above.run above.rise b.at_most;
  least = inl refl;
  greatest = inr above;
}

-- the pair's slope isn't less than the greatest
pub narrowed_not_from_above : (range : SlopeRange) (pair : PointPair) (a b : ℕ) → pair.lower.x + b ≡ pair.upper.x → pair.lower.y + a ≡ pair.upper.y
    → range.greatest.slope.p * b ≤ a * range.greatest.slope.q → IsNarrowed range pair range
narrowed_not_from_above range pair a b run rise lower = record {
  keeps = λ p q h k m. k;
  drops = λ p q h k. k;
  passes = λ p q h k. passes_later p q a b pair.lower pair.upper run rise (fractions_trans p q range.greatest.slope.p range.greatest.slope.q a b range.greatest.slope.q_above k.at_most lower);
  least = inl refl;
  greatest = inl refl;
}

-- the pair's slope becomes the least
pub narrowed_to_least : (range : SlopeRange) (pair : PointPair) (side : Side) → IsPairBelow pair.lower_place pair.upper_place pair.lower pair.upper side
    → range.least.slope.p * side.slope.q < side.slope.p * range.least.slope.q → IsNarrowed range pair (record { least = side; greatest = range.greatest })
narrowed_to_least range pair side below higher = record {
  keeps = λ p q h b m. record { at_least = earlier_passed p q side.slope.p side.slope.q pair.lower pair.upper below.run below.rise m; at_most = b.at_most };
  drops = λ p q h b. record { at_least = fractions_trans range.least.slope.p range.least.slope.q side.slope.p side.slope.q p q side.slope.q_above (omega arith) b.at_least; at_most = b.at_most };
  passes = λ p q h b. passes_earlier p q side.slope.p side.slope.q pair.lower pair.upper below.run below.rise b.at_least;
  least = inr below;
  greatest = inl refl;
}

-- the pair's slope isn't greater than the least
pub narrowed_not_from_below : (range : SlopeRange) (pair : PointPair) (a b : ℕ) → pair.upper.x + b ≡ pair.lower.x → pair.upper.y + a ≡ pair.lower.y
    → a * range.least.slope.q ≤ range.least.slope.p * b → IsNarrowed range pair range
narrowed_not_from_below range pair a b run rise higher = record {
  keeps = λ p q h k m. k;
  drops = λ p q h k. k;
  passes = λ p q h k. passes_earlier p q a b pair.lower pair.upper run rise (fractions_trans a b range.least.slope.p range.least.slope.q p q range.least.slope.q_above higher k.at_least);
  least = inl refl;
  greatest = inl refl;
}

-- any slope passes a lower point that isn't above an earlier upper one
pub narrowed_by_nothing : (range : SlopeRange) (pair : PointPair) → ((p q : ℕ) → Passes p q pair.lower pair.upper) → IsNarrowed range pair range
narrowed_by_nothing range pair all = record {
  keeps = λ p q h k m. k;
  drops = λ p q h k. k;
  passes = λ p q h k. all p q;
  least = inl refl;
  greatest = inl refl;
}

-- ---- what a comparison says
pub was_less : (o : Ordering) → (ordering_index o == 0) ≡ true → o ≡ Less
was_less Less h = refl
was_less Equal h = absurd (false≢true h)
was_less Greater h = absurd (false≢true h)

pub was_not_less : (o : Ordering) (m n : ℕ) → (ordering_index o == 0) ≡ false → (m < n → o ≡ Less) → n ≤ m
was_not_less o m n h k = dite (dec_le n m) (λ y. y) (λ y. let e : o ≡ Less = k (lt_of_not-le y) in let g : true ≡ false = subst (λ v. (ordering_index v == 0) ≡ false) e h in absurd (false≢true (sym g)))
