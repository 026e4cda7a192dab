-- How a lower point narrows a range with the upper points that were seen so far, and how lower points do.
use Rattle.std.proofs.Common.{◌≡◌, ℕ, ◌+◌, ◌-◌, ◌<◌, ◌≤◌, arith, refl, sym, subst, inl, inr, List, Some, length, get_or, ⊎_elim, mul-le-mul_left}
use Rattle.std.specs.Prelude.{◌⊎◌, All, slice_get}
use Rattle.std.specs.List.{AllWithin}
use Rattle.std.proofs.lemmas.List.Elements.{at_read, AllWithin-none, AllWithin-more, AllWithin-upto, AllWithin-from_all, All-from_all_within}
use Rattle.std.proofs.lemmas.Option.{slice_get_read}
use Rattle.hull_lines.specs.declared.point.ClockPoint.{ClockPoint}
use Rattle.hull_lines.specs.declared.range.SlopeRange.{SlopeRange}
use Rattle.hull_lines.specs.declared.range.Side.{Side}
use Rattle.hull_lines.specs.declared.outcome.Certificate.{Certificate}
use Rattle.hull_lines.specs.Certificates.{chord, AreAt, IsContradiction, IsFromAbove, IsFromBelow, IsSteeper}
use Rattle.hull_lines.specs.Ranges.{IsBetween, IsGreatestSide, IsLeastSide, IsNarrowed, IsPairAbove, IsPairBelow, IsRange, IsRowNarrowed, IsRowRefusal, IsWithinDrift}
use Rattle.hull_lines.specs.Slopes.{Passes}

-- the new range has the slopes of the old one that pass the lower point with the first n upper ones
pub record RowSeen (range : SlopeRange) (l : ClockPoint) (i : ℕ) (upper : List ClockPoint) (n : ℕ) (new : SlopeRange) : Type 0 where
  pub keeps : (p q : ℕ) → 0 < q → IsBetween range p q → AllWithin (Passes p q l) upper 0 n → IsBetween new p q
  pub drops : (p q : ℕ) → 0 < q → IsBetween new p q → IsBetween range p q
  pub passes : (p q : ℕ) → 0 < q → IsBetween new p q → AllWithin (Passes p q l) upper 0 n
  pub least : (new.least ≡ range.least) ⊎ ((j : ℕ) × (u : ClockPoint) × (slice_get upper j ≡ Some u) × IsPairBelow i j l u new.least)
  pub greatest : (new.greatest ≡ range.greatest) ⊎ ((j : ℕ) × (u : ClockPoint) × (slice_get upper j ≡ Some u) × IsPairAbove i j l u new.greatest)

pub row_none : (range : SlopeRange) (l : ClockPoint) (i : ℕ) (upper : List ClockPoint) → RowSeen range l i upper 0 range
row_none range l i upper = record {
  keeps = λ p q h b a. b;
  drops = λ p q h b. b;
  passes = λ p q h b. AllWithin-none (Passes p q l) upper 0;
  least = inl refl;
  greatest = inl refl;
}

-- what holds of the first n elements and of the next one
within_more : (P : ClockPoint → Type 0) (xs : List ClockPoint) (n : ℕ) (x : ClockPoint) → n < length xs → x ≡ get_or xs n x → AllWithin P xs 0 n → P x → AllWithin P xs 0 (n + 1)
within_more P xs n x i e a h = AllWithin-more P xs 0 n a (at_read xs P n x i e h)

pub row_more : (range mid new : SlopeRange) (l u : ClockPoint) (i n : ℕ) (upper : List ClockPoint) → n < length upper → u ≡ get_or upper n u → RowSeen range l i upper n mid
    → IsNarrowed mid (record { lower = l; upper = u; lower_place = i; upper_place = n }) new → RowSeen range l i upper (n + 1) new
row_more range mid new l u i n upper lt at seen next = record {
  keeps = λ p q h b a. next.keeps p q h (seen.keeps p q h b (AllWithin-upto (Passes p q l) upper 0 (n + 1) n (omega arith) a)) (subst (Passes p q l) (sym at) (a n u (omega arith) (omega arith)));
  drops = λ p q h b. seen.drops p q h (next.drops p q h b);
  passes = λ p q h b. within_more (Passes p q l) upper n u lt at (seen.passes p q h (next.drops p q h b)) (next.passes p q h b);
  least = ⊎_elim (λ e. subst (λ s. (s ≡ range.least) ⊎ ((j : ℕ) × (v : ClockPoint) × (slice_get upper j ≡ Some v) × IsPairBelow i j l v s)) (sym e) seen.least) (λ below. inr (n, u, slice_get_read upper (length upper) n u refl lt at, below)) next.least;
  greatest = ⊎_elim (λ e. subst (λ s. (s ≡ range.greatest) ⊎ ((j : ℕ) × (v : ClockPoint) × (slice_get upper j ≡ Some v) × IsPairAbove i j l v s)) (sym e) seen.greatest) (λ above. inr (n, u, slice_get_read upper (length upper) n u refl lt at, above)) next.greatest;
}

pub row_all : (range new : SlopeRange) (l : ClockPoint) (i n : ℕ) (upper : List ClockPoint) → n ≡ length upper → RowSeen range l i upper n new → IsRowNarrowed range l i upper new
row_all range new l i n upper e seen = record {
  keeps = λ p q h b a. seen.keeps p q h b (AllWithin-upto (Passes p q l) upper 0 (length upper) n (omega arith) (AllWithin-from_all (Passes p q l) upper a));
  drops = λ p q h b. seen.drops p q h b;
  passes = λ p q h b. All-from_all_within (Passes p q l) upper (AllWithin-upto (Passes p q l) upper 0 n (length upper) (omega arith) (seen.passes p q h b));
  least = seen.least;
  greatest = seen.greatest;
}

-- ---- lower points
-- the new range has the slopes of the drift's that pass the first n lower points with all upper ones
pub record AllSeen (lower upper : List ClockPoint) (drift : ℕ) (start : SlopeRange) (n : ℕ) (new : SlopeRange) : Type 0 where
  pub begins : IsWithinDrift drift start
  pub keeps : (p q : ℕ) → 0 < q → IsBetween start p q → AllWithin (λ l. All (Passes p q l) upper) lower 0 n → IsBetween new p q
  pub drops : (p q : ℕ) → 0 < q → IsBetween new p q → IsBetween start p q
  pub passes : (p q : ℕ) → 0 < q → IsBetween new p q → AllWithin (λ l. All (Passes p q l) upper) lower 0 n
  pub least : IsLeastSide lower upper drift new.least
  pub greatest : IsGreatestSide lower upper drift new.greatest

pub all_none : (lower upper : List ClockPoint) (drift : ℕ) (start : SlopeRange) → IsWithinDrift drift start → AllSeen lower upper drift start 0 start
all_none lower upper drift start w = record {
  begins = w;
  keeps = λ p q h b a. b;
  drops = λ p q h b. b;
  passes = λ p q h b. AllWithin-none (λ l. All (Passes p q l) upper) lower 0;
  least = record {
    chord = chord 0 0 1_000_000 (1_000_000 - drift);
    from = subst (λ b. IsFromBelow lower upper drift b (chord 0 0 1_000_000 (1_000_000 - drift))) (sym w.least_bound) refl;
    run = omega (arith, w.least_q);
    rise = omega (arith, w.least_p);
  };
  greatest = record {
    chord = chord 0 0 1_000_000 (1_000_000 + drift);
    from = subst (λ b. IsFromAbove lower upper drift b (chord 0 0 1_000_000 (1_000_000 + drift))) (sym w.greatest_bound) refl;
    run = omega (arith, w.greatest_q);
    rise = omega (arith, w.greatest_p);
  };
}

pub least_of_pair : (lower upper : List ClockPoint) (drift i j : ℕ) (l u : ClockPoint) (side : Side) → AreAt lower upper i j l u → IsPairBelow i j l u side → IsLeastSide lower upper drift side
least_of_pair lower upper drift i j l u side at below =
    let some : 0 < side.slope.q = side.slope.q_above in
    let later : u.x < l.x = omega (arith, below.run) in
    record {
      chord = chord u.x u.y l.x l.y;
      from = subst (λ b. IsFromBelow lower upper drift b (chord u.x u.y l.x l.y)) (sym below.bound) (l, u, at, later, refl);
      run = below.run;
      rise = below.rise;
    }

pub greatest_of_pair : (lower upper : List ClockPoint) (drift i j : ℕ) (l u : ClockPoint) (side : Side) → AreAt lower upper i j l u → IsPairAbove i j l u side → IsGreatestSide lower upper drift side
greatest_of_pair lower upper drift i j l u side at above =
    let some : 0 < side.slope.q = side.slope.q_above in
    let later : l.x < u.x = omega (arith, above.run) in
    record {
      chord = chord l.x l.y u.x u.y;
      from = subst (λ b. IsFromAbove lower upper drift b (chord l.x l.y u.x u.y)) (sym above.bound) (l, u, at, later, refl);
      run = above.run;
      rise = above.rise;
    }

pub all_more : (lower upper : List ClockPoint) (drift : ℕ) (start mid new : SlopeRange) (n : ℕ) (l : ClockPoint) → n < length lower → l ≡ get_or lower n l → AllSeen lower upper drift start n mid
    → IsRowNarrowed mid l n upper new → AllSeen lower upper drift start (n + 1) new
all_more lower upper drift start mid new n l lt at seen next =
    let found : slice_get lower n ≡ Some l = slice_get_read lower (length lower) n l refl lt at in
    record {
      begins = seen.begins;
      keeps = λ p q h b a. next.keeps p q h (seen.keeps p q h b (AllWithin-upto (λ l. All (Passes p q l) upper) lower 0 (n + 1) n (omega arith) a)) (subst (λ v. All (Passes p q v) upper) (sym at) (a n l (omega arith) (omega arith)));
      drops = λ p q h b. seen.drops p q h (next.drops p q h b);
      passes = λ p q h b. within_more (λ l. All (Passes p q l) upper) lower n l lt at (seen.passes p q h (next.drops p q h b)) (next.passes p q h b);
      least = ⊎_elim (λ e. subst (IsLeastSide lower upper drift) (sym e) seen.least) (λ w. least_of_pair lower upper drift n w.0 l w.1 new.least (record { lower_at = found; upper_at = w.2 }) w.3) next.least;
      greatest = ⊎_elim (λ e. subst (IsGreatestSide lower upper drift) (sym e) seen.greatest) (λ w. greatest_of_pair lower upper drift n w.0 l w.1 new.greatest (record { lower_at = found; upper_at = w.2 }) w.3) next.greatest;
    }

pub all_all : (lower upper : List ClockPoint) (drift : ℕ) (start new : SlopeRange) (n : ℕ) → n ≡ length lower → AllSeen lower upper drift start n new → IsRange lower upper drift new
all_all lower upper drift start new n e seen =
    let w = seen.begins in
    let lp : start.least.slope.p ≡ 1_000_000 - drift = omega (arith, w.least_p) in
    record {
      keeps = λ p q a. seen.keeps p q a.is_fraction
          (record { at_least = rw (lp, w.least_q) a.not_slow; at_most = rw (w.greatest_p, w.greatest_q) a.not_fast })
          (AllWithin-upto (λ l. All (Passes p q l) upper) lower 0 (length lower) n (omega arith) (AllWithin-from_all (λ l. All (Passes p q l) upper) lower a.passes));
      admits = λ p q h b. let s = seen.drops p q h b in record {
        is_fraction = h;
        not_slow = rw (lp, w.least_q) at s.at_least;
        not_fast = rw (w.greatest_p, w.greatest_q) at s.at_most;
        passes = All-from_all_within (λ l. All (Passes p q l) upper) lower (AllWithin-upto (λ l. All (Passes p q l) upper) lower 0 n (length lower) (omega arith) (seen.passes p q h b));
      };
      least = seen.least;
      greatest = seen.greatest;
    }

-- ---- points that refuse
pub refused_row : (lower upper : List ClockPoint) (drift i : ℕ) (l : ClockPoint) (c : Certificate) → drift ≤ 1_000_000 → slice_get lower i ≡ Some l → IsRowRefusal l i upper c → IsContradiction lower upper drift c
refused_row lower upper drift i l c small found w =
    let j : ℕ = w.0 in
    let u : ClockPoint = w.1 in
    let at : AreAt lower upper i j l u = record { lower_at = found; upper_at = w.2 } in
    ⊎_elim (λ m. subst (IsContradiction lower upper drift) (sym m.certificate) (l, u, at, m.one_time, m.below))
    (λ f. let k = mul-le-mul_left (1_000_000 - drift) f.later in let g : u.y < l.y = f.below in
    let steeper : IsSteeper (chord 0 0 1_000_000 (1_000_000 - drift)) (chord l.x l.y u.x u.y) = omega (arith, k, g) in
    subst (IsContradiction lower upper drift) (sym f.certificate) (chord 0 0 1_000_000 (1_000_000 - drift), chord l.x l.y u.x u.y, refl, (l, u, at, f.later, refl), steeper)) w.3
