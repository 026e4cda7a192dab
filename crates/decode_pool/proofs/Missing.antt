-- The marks of accepted packets say what is missing between neighbours.
use Rattle.std.proofs.Common.{◌≡◌, ◌≢◌, ◌⊎◌, inl, inr, rules, ◌∙◌, ℕ, zero, suc, ◌+◌, ◌-◌, ◌^◌, ◌<◌, ◌≤◌, ◌==◌, ◌&&◌, ◌||◌, not, min, Bool, true, false, if◌then◌else◌, List, [], ◌∷◌, ◌++◌, append_assoc, map, refl, sym, ap, ap₂, subst, arith}
use Rattle.std.proofs.Math.Nat.{min-eq_left, min-eq_right, min-le_right}
use Rattle.std.proofs.lemmas.Bool.{cases_lt}
use Rattle.std.specs.List.{AllByRecursion}
use Rattle.trace_types.specs.declared.event.Event.{Event}
use Rattle.trace_types.specs.declared.event.KernelEvent.TheVariants.{Lost}
use Rattle.decode_pool.specs.declared.decoded_packet.AcceptedPacket.{AcceptedPacket}
use Rattle.decode_pool.specs.declared.lost_events.Counts.{Counts}
use Rattle.decode_pool.specs.declared.lost_events.LostEvents.{LostEvents}
use Rattle.decode_pool.specs.Marks.{added_by, counts_of, is_gap, left_by, listed, lost_since, mark, nothing_lost, plus_lost}
use Rattle.decode_pool.specs.Missing.{AreNeighbours, IsEmpty, IsMark, IsMissing, IsWhole, LacksPackets, MarksAreWhereEventsAreMissing, lost_over}

-- ---- neighbours of a stretch

first_two : (a b : Counts) (rest : List Counts) → AreNeighbours (a ∷ b ∷ rest) a b
first_two a b rest = ([], rest, refl)

one_on : (a x y : Counts) (stretch : List Counts) → AreNeighbours stretch x y → AreNeighbours (a ∷ stretch) x y
one_on a x y stretch h = (a ∷ h.0, h.1, ap (λ l. a ∷ l) h.2)

first_or_later : (a b : Counts) (rest : List Counts) (x y : Counts) → AreNeighbours (a ∷ b ∷ rest) x y → ((a ≡ x) × (b ≡ y)) ⊎ AreNeighbours (b ∷ rest) x y
first_or_later a b rest x y h = by h.0 h.2
  where
    by : (front : List Counts) → a ∷ b ∷ rest ≡ front ++ x ∷ y ∷ h.1 → ((a ≡ x) × (b ≡ y)) ⊎ AreNeighbours (b ∷ rest) x y
    by [] e = inl (cc, cc)
    by (c ∷ front) e = inr (front, h.1, cc)

none_alone : (a x y : Counts) → AreNeighbours (a ∷ []) x y → ⊥
none_alone a x y h = by h.0 h.2
  where
    by : (front : List Counts) → a ∷ [] ≡ front ++ x ∷ y ∷ h.1 → ⊥
    by [] e = absurd (cc)
    by (c ∷ []) e = absurd (cc)
    by (c ∷ d ∷ front) e = absurd (cc)

-- ---- what is missing over a stretch, by accumulation

over : LostEvents → Counts → List Counts → LostEvents
over lost a [] = lost
over lost a (b ∷ rest) = over (plus_lost lost a b) b rest

-- a sum that stops at a greatest number, and goes on
capped : (x y most : ℕ) → min (min x most + y) most ≡ min (x + y) most
capped x y most = by (cases_lt most x)
  where
    by : (most < x) ⊎ (x ≤ most) → min (min x most + y) most ≡ min (x + y) most
    by (inl more) =
        let e : min x most ≡ most = min-eq_right (omega (arith, more)) in
        let left : min (most + y) most ≡ most = min-eq_right (omega arith) in
        let right : min (x + y) most ≡ most = min-eq_right (omega (arith, more)) in
        ap (λ n. min (n + y) most) e ∙ (left ∙ sym right)
    by (inr few) = ap (λ n. min (n + y) most) (min-eq_left few)

summed : (lost : LostEvents) (a : Counts) (rest : List Counts) → lost.events ≤ 2 ^ 64 - 1 → (over lost a rest).events ≡ min (lost.events + lost_over (a ∷ rest)) (2 ^ 64 - 1)
unfolding over
summed lost a [] few = let none : lost.events + 0 ≡ lost.events = omega arith in sym (ap (λ n. min n (2 ^ 64 - 1)) none ∙ min-eq_left few)
summed lost a (b ∷ rest) few =
    let n = lost_since a.discarded b.discarded in
    let sum : (lost.events + n) + lost_over (b ∷ rest) ≡ lost.events + (n + lost_over (b ∷ rest)) = omega arith in
    summed (plus_lost lost a b) b rest (min-le_right (lost.events + n) (2 ^ 64 - 1)) ∙ (capped (lost.events + n) (lost_over (b ∷ rest)) (2 ^ 64 - 1) ∙ ap (λ m. min m (2 ^ 64 - 1)) sum)

-- nothing is lost in all where nothing is lost between any two
no_sum : (a : Counts) (rest : List Counts) → ((x y : Counts) → AreNeighbours (a ∷ rest) x y → lost_since x.discarded y.discarded ≡ 0) → lost_over (a ∷ rest) ≡ 0
no_sum a [] none = refl
no_sum a (b ∷ rest) none =
    let here = none a b (first_two a b rest) in
    let later = no_sum b rest (λ x y h. none x y (one_on a x y (b ∷ rest) h)) in
    omega (arith, here, later)

none_lost : (a : Counts) (rest : List Counts) → lost_over (a ∷ rest) ≡ 0 → (x y : Counts) → AreNeighbours (a ∷ rest) x y → lost_since x.discarded y.discarded ≡ 0
none_lost a [] e x y h = absurd (none_alone a x y h)
none_lost a (b ∷ rest) e x y h = by (none_lost b rest (omega (arith, e)) x y) (first_or_later a b rest x y h)
  where
    by : (AreNeighbours (b ∷ rest) x y → lost_since x.discarded y.discarded ≡ 0) → ((a ≡ x) × (b ≡ y)) ⊎ AreNeighbours (b ∷ rest) x y → lost_since x.discarded y.discarded ≡ 0
    by among (inl same) = let first : lost_since a.discarded b.discarded ≡ 0 = omega (arith, e) in sym (ap₂ (λ c d. lost_since c.discarded d.discarded) same.0 same.1) ∙ first
    by among (inr later) = among later

gap_stays : (lost : LostEvents) (a : Counts) (rest : List Counts) → lost.gap ≡ true → (over lost a rest).gap ≡ true
unfolding over
gap_stays lost a [] e = e
gap_stays lost a (b ∷ rest) e = gap_stays (plus_lost lost a b) b rest (ap (λ g. g || is_gap a.seq b.seq) e)

or_right : (g h : Bool) → h ≡ true → (g || h) ≡ true
or_right true h e = refl
or_right false h e = e

gap_between : (lost : LostEvents) (a : Counts) (rest : List Counts) (x y : Counts) → AreNeighbours (a ∷ rest) x y → is_gap x.seq y.seq ≡ true → (over lost a rest).gap ≡ true
unfolding over
gap_between lost a [] x y h e = absurd (none_alone a x y h)
gap_between lost a (b ∷ rest) x y h e = by (λ later. gap_between (plus_lost lost a b) b rest x y later e) (first_or_later a b rest x y h)
  where
    by : (AreNeighbours (b ∷ rest) x y → (over (plus_lost lost a b) b rest).gap ≡ true) → ((a ≡ x) × (b ≡ y)) ⊎ AreNeighbours (b ∷ rest) x y → (over (plus_lost lost a b) b rest).gap ≡ true
    by among (inl same) = gap_stays (plus_lost lost a b) b rest (or_right lost.gap (is_gap a.seq b.seq) (ap₂ (λ c d. is_gap c.seq d.seq) same.0 same.1 ∙ e))
    by among (inr later) = among later

some_gap : (lost : LostEvents) (a : Counts) (rest : List Counts) → (over lost a rest).gap ≡ true → (lost.gap ≡ true) ⊎ LacksPackets (a ∷ rest)
unfolding over
some_gap lost a [] e = inl e
some_gap lost a (b ∷ rest) e = later (some_gap (plus_lost lost a b) b rest e)
  where
    here : (g h : Bool) → is_gap a.seq b.seq ≡ h → (g || h) ≡ true → (g ≡ true) ⊎ LacksPackets (a ∷ b ∷ rest)
    here true h is e = inl refl
    here false h is e = inr (a, b, first_two a b rest, is ∙ e)

    later : ((lost.gap || is_gap a.seq b.seq) ≡ true) ⊎ LacksPackets (b ∷ rest) → (lost.gap ≡ true) ⊎ LacksPackets (a ∷ b ∷ rest)
    later (inl e) = here lost.gap (is_gap a.seq b.seq) refl e
    later (inr p) = inr (p.0, p.1, one_on a p.0 p.1 (b ∷ rest) p.2, p.3)

-- ---- the events after packets without events

pub alone : (before : Counts) (lost : LostEvents) (empty : List AcceptedPacket) → AllByRecursion IsEmpty empty → listed before lost empty ≡ []
alone before lost [] all = refl
alone before lost (x ∷ empty) all =
    let now = plus_lost lost before (counts_of x) in
    subst (λ es. added_by x now es ++ listed (counts_of x) (left_by now es) empty ≡ []) (sym all.0) (alone (counts_of x) now empty all.1)

module _ (k : AcceptedPacket) (first : Event) (others : List Event) (after : List AcceptedPacket) (is : k.events ≡ first ∷ others) where
  reported_by : (before : Counts) (lost : LostEvents) (empty : List AcceptedPacket) → AllByRecursion IsEmpty empty
      → listed before lost (empty ++ k ∷ after) ≡ mark k first (over lost before (map counts_of (empty ++ k ∷ []))) ++ (k.events ++ listed (counts_of k) nothing_lost after)
  unfolding over
  reported_by before lost [] all =
      let now = plus_lost lost before (counts_of k) in
      subst (λ es. added_by k now es ++ listed (counts_of k) (left_by now es) after ≡ mark k first now ++ (es ++ listed (counts_of k) nothing_lost after)) (sym is) (append_assoc (mark k first now) (first ∷ others) (listed (counts_of k) nothing_lost after))
  reported_by before lost (x ∷ empty) all =
      let now = plus_lost lost before (counts_of x) in
      subst (λ es. added_by x now es ++ listed (counts_of x) (left_by now es) (empty ++ k ∷ after) ≡ mark k first (over now (counts_of x) (map counts_of (empty ++ k ∷ []))) ++ (k.events ++ listed (counts_of k) nothing_lost after)) (sym all.0)
      (reported_by (counts_of x) now empty all.1)

-- ---- the mark

IsNothing : LostEvents → Type 0
IsNothing lost = (lost.events ≡ 0) × (lost.gap ≡ false)

IsSomething : LostEvents → Type 0
IsSomething lost = (lost.events ≢ 0) ⊎ (lost.gap ≡ true)

nothing_or : (n : ℕ) (gap : Bool) → ((n ≡ 0) × (gap ≡ false)) ⊎ ((n ≢ 0) ⊎ (gap ≡ true))
nothing_or zero false = inl (refl, refl)
nothing_or zero true = inr (inr refl)
nothing_or (suc n) gap = inr (inl (λ e. absurd (omega (arith, e))))

mark_of : AcceptedPacket → Event → LostEvents → Event
mark_of k first lost = record { time = first.time; host = first.host; cpu = k.cpu; kind = Lost lost.events lost.gap }

no_mark : (k : AcceptedPacket) (first : Event) (lost : LostEvents) → IsNothing lost → mark k first lost ≡ []
unfolding IsNothing mark_of
no_mark k first lost h = ap₂ (λ n gap. if n == 0 && not gap then [] else mark_of k first lost ∷ []) h.0 h.1

is_something : (n : ℕ) (gap : Bool) → (n ≢ 0) ⊎ (gap ≡ true) → (n == 0 && not gap) ≡ false
is_something zero false (inl h) = absurd (h refl)
is_something zero false (inr e) = absurd (cc)
is_something zero true h = refl
is_something (suc n) gap h = search rules

one_mark : (k : AcceptedPacket) (first : Event) (lost : LostEvents) → IsSomething lost → mark k first lost ≡ mark_of k first lost ∷ []
unfolding IsSomething mark_of
one_mark k first lost h = ap (λ b. if b then [] else mark_of k first lost ∷ []) (is_something lost.events lost.gap h)

module _ (a : Counts) (rest : List Counts) where
  all_of : LostEvents
  all_of = over nothing_lost a rest

  events_are : all_of.events ≡ min (lost_over (a ∷ rest)) (2 ^ 64 - 1)
  unfolding all_of
  events_are = let none : 0 + lost_over (a ∷ rest) ≡ lost_over (a ∷ rest) = omega arith in summed nothing_lost a rest (omega arith) ∙ ap (λ n. min n (2 ^ 64 - 1)) none

  gap_is : all_of.gap ≡ true → LacksPackets (a ∷ rest)
  unfolding all_of
  gap_is e = by (some_gap nothing_lost a rest e)
    where
      by : (false ≡ true) ⊎ LacksPackets (a ∷ rest) → LacksPackets (a ∷ rest)
      by (inl e) = absurd (cc)
      by (inr lacks) = lacks

  is_gap_there : LacksPackets (a ∷ rest) → all_of.gap ≡ true
  unfolding all_of
  is_gap_there lacks = gap_between nothing_lost a rest lacks.0 lacks.1 lacks.2 lacks.3

  no_events : IsWhole (a ∷ rest) → lost_over (a ∷ rest) ≡ 0
  no_events whole = no_sum a rest (λ x y h. by x y h (lost_since x.discarded y.discarded) refl)
    where
      by : (x y : Counts) → AreNeighbours (a ∷ rest) x y → (n : ℕ) → lost_since x.discarded y.discarded ≡ n → n ≡ 0
      by x y h zero e = refl
      by x y h (suc n) e = absurd (whole x y h (inr (λ none. absurd (omega (arith, e, none)))))

  no_gap : IsWhole (a ∷ rest) → (gap : Bool) → all_of.gap ≡ gap → gap ≡ false
  no_gap whole false e = refl
  no_gap whole true e = let lacks = gap_is e in absurd (whole lacks.0 lacks.1 lacks.2 (inl lacks.3))

  whole_nothing : IsWhole (a ∷ rest) → IsNothing all_of
  unfolding IsNothing
  whole_nothing whole = (events_are ∙ (ap (λ n. min n (2 ^ 64 - 1)) (no_events whole) ∙ min-eq_left {n = 0} {m = 2 ^ 64 - 1} (omega arith)), no_gap whole all_of.gap refl)

  -- where a sum that stops is 0, the sum is
  is_zero : (n : ℕ) → min n (2 ^ 64 - 1) ≡ 0 → n ≡ 0
  is_zero n e = by (cases_lt (2 ^ 64 - 1) n)
    where
      by : (2 ^ 64 - 1 < n) ⊎ (n ≤ 2 ^ 64 - 1) → n ≡ 0
      by (inl more) = let m : min n (2 ^ 64 - 1) ≡ 2 ^ 64 - 1 = min-eq_right (omega (arith, more)) in absurd (omega (arith, m, e))
      by (inr few) = sym (min-eq_left few) ∙ e

  nothing_whole : IsNothing all_of → IsWhole (a ∷ rest)
  unfolding IsNothing
  nothing_whole nothing x y h missing = by missing
    where
      by : IsMissing x y → ⊥
      by (inl gap) = let there = is_gap_there (x, y, h, gap) in let none = nothing.1 in absurd (cc)
      by (inr lost) = lost (none_lost a rest (is_zero (lost_over (a ∷ rest)) (sym events_are ∙ nothing.0)) x y h)

  is_mark : (k : AcceptedPacket) (first : Event) → IsMark (a ∷ rest) k first (mark_of k first all_of)
  unfolding mark_of
  is_mark k first = record {
    gap = all_of.gap;
    mark = ap (λ n. record { time = first.time; host = first.host; cpu = k.cpu; kind = Lost n all_of.gap }) events_are;
    packets = (gap_is, is_gap_there);
  }

pub marks_are : (before : Counts) (empty : List AcceptedPacket) (k : AcceptedPacket) (first : Event) (others : List Event) (after : List AcceptedPacket) → AllByRecursion IsEmpty empty → k.events ≡ first ∷ others → MarksAreWhereEventsAreMissing before empty k first after
unfolding all_of IsNothing IsSomething
marks_are before empty k first others after all is = by (nothing_or lost.events lost.gap)
  where
    rest : List Counts
    rest = map counts_of (empty ++ k ∷ [])

    lost : LostEvents
    lost = over nothing_lost before rest

    by : IsNothing lost ⊎ IsSomething lost → MarksAreWhereEventsAreMissing before empty k first after
    by (inl nothing) = record {
      marks = mark k first lost;
      reported = reported_by k first others after is before nothing_lost empty all;
      none = (λ e. nothing_whole before rest nothing, λ whole. no_mark k first lost nothing);
      one = inl (no_mark k first lost nothing);
    }
    by (inr something) = let m = one_mark k first lost something in record {
      marks = mark k first lost;
      reported = reported_by k first others after is before nothing_lost empty all;
      none = (λ e. absurd (cc), λ whole. no_mark k first lost (whole_nothing before rest whole));
      one = inr (mark_of k first lost, m, is_mark before rest k first);
    }
