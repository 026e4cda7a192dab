-- What stretches that are made from intervals keep, and which values they have.
use Rattle.std.proofs.Common.{◌≡◌, ◌⊎◌, inl, inr, ℕ, ◌+◌, ◌-◌, ◌<◌, ◌≤◌, min, Bool, true, false, cond, nat_lt, List, [], ◌∷◌, Option, None, Some, refl, sym, ap, ◌∙◌, subst, arith}
use Rattle.std.specs.List.{AllByRecursion}
use Rattle.std.specs.Prelude.{unwrap_or}
use Rattle.std.specs.FinMap.{get}
use Rattle.std.proofs.lemmas.Bool.{ltb-true, ltb-false, le-leb, lt-leb}
use Rattle.trace_types.specs.declared.value.Value.{Value}
use Rattle.trace_types.specs.declared.value.Value.TheVariants.{Null}
use Rattle.history_nodes.specs.declared.interval.Interval.{Interval}
use Rattle.history_tree.specs.Records.{Content, IsHeld}
use Rattle.history_tree.specs.Over.{FollowFrom, AreOver, HasStart}
use Rattle.history_tree.proofs.Contents.{IsMember, contained, member_in, all_members}
use Rattle.history_core.specs.declared.closed.Since.{Since}
use Rattle.history_core.specs.Intervals.{EndBefore, IsValueSince}
use Rattle.range_query.specs.declared.stretch.Stretch.{Stretch}
use Rattle.range_query.specs.Stretches.{Tile, NeighboursDiffer}
use Rattle.range_query.specs.Cover.{Covered, begun, put_on, extended, filled, ended}
use Rattle.range_query.proofs.Putting.{tile_put, differ_put, HasValue, values_put}

-- ---- they tile, and neighbours differ
pub record IsCover (from : ℕ) (c : Covered) : Type 0 where
  pub tile : Tile from c.stretches c.reached
  pub differ : NeighboursDiffer c.stretches

pub cover_extended : (from to : ℕ) (v : Value) (c : Covered) → IsCover from c → IsCover from (extended to v c)
cover_extended from to v c h = by (nat_lt c.reached to) refl
  where
    s : Stretch
    s = record { from = c.reached; to = to; value = v }

    by : (b : Bool) → nat_lt c.reached to ≡ b → IsCover from (cond b (record { stretches = put_on (record { from = c.reached; to = to; value = v }) c.stretches; reached = to }) c)
    by true e = record { tile = tile_put (record { from = c.reached; to = to; value = v }) c.stretches from (ltb-true c.reached to e) h.tile; differ = differ_put (record { from = c.reached; to = to; value = v }) c.stretches h.differ }
    by false e = h

pub cover_filled : (from end : ℕ) (is : List Interval) (c : Covered) → IsCover from c → IsCover from (filled end is c)
cover_filled from end [] c h = h
cover_filled from end (i ∷ is) c h = cover_filled from end is _ (cover_extended from (min end (i.end + 1)) i.value (extended i.start Null c) (cover_extended from i.start Null c h))

pub cover_ended : (from end : ℕ) (o : Option Since) (c : Covered) → IsCover from c → IsCover from (ended end o c)
cover_ended from end None c h = cover_extended from end Null c h
cover_ended from end (Some since) c h = cover_extended from end since.value (extended (min end since.start) Null c) (cover_extended from (min end since.start) Null c h)

-- ---- how far they reach
pub record IsReached (old to new : ℕ) : Type 0 where
  pub old_by : old ≤ new
  pub to_by : to ≤ new
  pub one : (new ≡ old) ⊎ (new ≡ to)

pub reached_extended : (to : ℕ) (v : Value) (c : Covered) → IsReached c.reached to (extended to v c).reached
reached_extended to v c = by (nat_lt c.reached to) refl
  where
    by : (b : Bool) → nat_lt c.reached to ≡ b → IsReached c.reached to (cond b (record { stretches = put_on (record { from = c.reached; to = to; value = v }) c.stretches; reached = to }) c).reached
    by true e = record { old_by = omega (arith, ltb-true c.reached to e); to_by = omega arith; one = inr refl }
    by false e = record { old_by = omega arith; to_by = ltb-false c.reached to e; one = inl refl }

within : (old to new end : ℕ) → IsReached old to new → old ≤ end → to ≤ end → new ≤ end
within old to new end r a b = by r.one
  where
    by : (new ≡ old) ⊎ (new ≡ to) → new ≤ end
    by (inl e) = omega (arith, e, a)
    by (inr e) = omega (arith, e, b)

pub values_extended : (f : ℕ → Value) (from to : ℕ) (v : Value) (c : Covered) → IsCover from c → AllByRecursion (HasValue f) c.stretches → ((t : ℕ) → c.reached ≤ t → t < to → f t ≡ v) → AllByRecursion (HasValue f) (extended to v c).stretches
values_extended f from to v c h g new = by (nat_lt c.reached to)
  where
    by : (b : Bool) → AllByRecursion (HasValue f) (cond b (record { stretches = put_on (record { from = c.reached; to = to; value = v }) c.stretches; reached = to }) c).stretches
    by true = values_put f (record { from = c.reached; to = to; value = v }) c.stretches from h.tile (record { each = new }) g
    by false = g

-- ---- over the intervals of a number
-- what is known of a number's values below an end: f is what its intervals say
pub record Says (content : Content) (o : Option Since) (number end : ℕ) (f : ℕ → Value) : Type 0 where
  pub older : EndBefore content number o
  pub says : (t : ℕ) (v : Value) → t < end → IsValueSince o content number t v → v ≡ f t

-- an interval of the content is still to come
pub record IsAwaited (is : List Interval) (start : ℕ) : Type 0 where
  pub interval : Interval
  pub member : IsMember interval is
  pub begins : interval.start ≡ start

-- the intervals that are still to come: those of the content that hold an instant from what is reached on, in order
pub record ArePending (content : Content) (number end reached least : ℕ) (is : List Interval) : Type 0 where
  pub below : reached ≤ end
  pub held : AllByRecursion (IsHeld content) is
  pub of : AllByRecursion (λ i. i.number ≡ number) is
  pub begins : AllByRecursion (λ i. i.start < end) is
  pub follow : FollowFrom least is
  pub whole : (s e t : ℕ) (v : Value) → get content (number ∷ s ∷ []) ≡ Some (e, v) → s ≤ t → t ≤ e → reached ≤ t → t < end → IsAwaited is s

-- those of a list that follow an instant begin no earlier
pub follow_late : (is : List Interval) (least : ℕ) (i : Interval) → FollowFrom least is → IsMember i is → least ≤ i.start
follow_late [] least i h m = absurd m
follow_late (j ∷ js) least i h (inl e) = let s = ap (λ (k : Interval). k.start) e in omega (arith, s, h.0)
follow_late (j ∷ js) least i h (inr m) = let ordered = j.ordered in omega (arith, ordered, h.0, follow_late js (j.end + 1) i h.1 m)

module _ (content : Content) (o : Option Since) (number end : ℕ) (f : ℕ → Value) (said : Says content o number end f) where
  -- the value of an interval that is held, at an instant that it holds
  held_value : (i : Interval) (t : ℕ) → IsHeld content i → i.number ≡ number → i.start ≤ t → t ≤ i.end → t < end → f t ≡ i.value
  held_value i t held of begun lasts lt = sym (said.says t i.value lt (since o (said.older i.start i.end i.value at)))
    where
      at : get content (number ∷ i.start ∷ []) ≡ Some (i.end, i.value)
      at = subst (λ n. get content (n ∷ i.start ∷ []) ≡ Some (i.end, i.value)) of held

      since : (p : Option Since) → (s : Since) × (p ≡ Some s) × (i.end < s.start) → IsValueSince p content number t i.value
      since None q = inl (i.start, i.end, at, begun, lasts)
      since (Some c) q =
          let same : q.0 ≡ c = ap (λ (q' : Option Since). unwrap_or q' c) (sym q.1) in
          let start = ap (λ (s : Since). s.start) same in
          rw (lt-leb c.start t (omega (arith, start, q.2, lasts))) (inl (i.start, i.end, at, begun, lasts))

  -- where no interval holds an instant before the open one, there is no value
  gap_value : (t : ℕ) → ((s e : ℕ) (v : Value) → get content (number ∷ s ∷ []) ≡ Some (e, v) → s ≤ t → t ≤ e → ⊥) → ((s : Since) → o ≡ Some s → t < s.start) → t < end → f t ≡ Null
  gap_value t none before lt = sym (said.says t Null lt (since o refl))
    where
      since : (p : Option Since) → o ≡ p → IsValueSince p content number t Null
      since None e = inr (refl, none)
      since (Some c) e = rw (lt-leb c.start t (before c e)) (inr (refl, none))

  -- one interval more
  next_pending : (i : Interval) (is : List Interval) (c : Covered) (least : ℕ) → ArePending content number end c.reached least (i ∷ is)
      → ArePending content number end (extended (min end (i.end + 1)) i.value (extended i.start Null c)).reached (i.end + 1) is
  next_pending i is c least p = record {
    below = within _ _ _ end second (within _ _ _ end first p.below (omega (arith, p.begins.0))) (omega arith);
    held = p.held.1;
    of = p.of.1;
    begins = p.begins.1;
    follow = p.follow.1;
    whole = λ s e t v g begun lasts late lt. rest s e t v g lasts late lt (p.whole s e t v g begun lasts (omega (arith, first.old_by, second.old_by, late)) lt);
  }
    where
      first : IsReached c.reached i.start (extended i.start Null c).reached
      first = reached_extended i.start Null c

      second : IsReached (extended i.start Null c).reached (min end (i.end + 1)) (extended (min end (i.end + 1)) i.value (extended i.start Null c)).reached
      second = reached_extended (min end (i.end + 1)) i.value (extended i.start Null c)

      rest : (s e t : ℕ) (v : Value) → get content (number ∷ s ∷ []) ≡ Some (e, v) → t ≤ e → (extended (min end (i.end + 1)) i.value (extended i.start Null c)).reached ≤ t → t < end → IsAwaited (i ∷ is) s → IsAwaited is s
      rest s e t v g lasts late lt w = by w.member
        where
          by : (i ≡ w.interval) ⊎ IsMember w.interval is → IsAwaited is s
          by (inr m) = record { interval = w.interval; member = m; begins = w.begins }
          by (inl same) =
              let start : i.start ≡ s = ap (λ (k : Interval). k.start) same ∙ w.begins in
              let here : get content (number ∷ s ∷ []) ≡ Some (i.end, i.value) = subst (λ n. get content (n ∷ s ∷ []) ≡ Some (i.end, i.value)) p.of.0 (subst (λ k. get content (i.number ∷ k ∷ []) ≡ Some (i.end, i.value)) start p.held.0) in
              let ends : i.end ≡ e = ap (λ (q : Option (ℕ × Value)). (unwrap_or q (e, v)).0) (sym here ∙ g) in
              absurd (omega (arith, ends, lasts, late, lt, second.to_by))

  next_values : (from : ℕ) (i : Interval) (is : List Interval) (c : Covered) (least : ℕ) → ArePending content number end c.reached least (i ∷ is) → IsCover from c → AllByRecursion (HasValue f) c.stretches
      → AllByRecursion (HasValue f) (extended (min end (i.end + 1)) i.value (extended i.start Null c)).stretches
  next_values from i is c least p h g =
      values_extended f from (min end (i.end + 1)) i.value (extended i.start Null c) (cover_extended from i.start Null c h)
      (values_extended f from i.start Null c h g (λ t late early. gap_value t (none t late early) (before t early) (omega (arith, early, p.begins.0))))
      (λ t late early. held_value i t p.held.0 p.of.0 (omega (arith, late, first.to_by)) (omega (arith, early)) (omega (arith, early)))
    where
      first : IsReached c.reached i.start (extended i.start Null c).reached
      first = reached_extended i.start Null c

      none : (t : ℕ) → c.reached ≤ t → t < i.start → (s e : ℕ) (v : Value) → get content (number ∷ s ∷ []) ≡ Some (e, v) → s ≤ t → t ≤ e → ⊥
      none t late early s e v k begun lasts = by (p.whole s e t v k begun lasts late (omega (arith, early, p.begins.0)))
        where
          by : IsAwaited (i ∷ is) s → ⊥
          by w = at w.member
            where
              at : (i ≡ w.interval) ⊎ IsMember w.interval is → ⊥
              at (inl same) = let start : i.start ≡ s = ap (λ (k : Interval). k.start) same ∙ w.begins in omega (arith, start, begun, early)
              at (inr m) = let ordered = i.ordered in omega (arith, ordered, follow_late is (i.end + 1) w.interval p.follow.1 m, w.begins, begun, early)

      before : (t : ℕ) → t < i.start → (s : Since) → o ≡ Some s → t < s.start
      before t early s e =
          let q = said.older i.start i.end i.value (subst (λ n. get content (n ∷ i.start ∷ []) ≡ Some (i.end, i.value)) p.of.0 p.held.0) in
          let same : q.0 ≡ s = ap (λ (q' : Option Since). unwrap_or q' s) (sym q.1 ∙ e) in
          let start = ap (λ (r : Since). r.start) same in
          let ordered = i.ordered in
          omega (arith, start, q.2, ordered, early)

  -- all intervals
  pub record IsFilled (from : ℕ) (c : Covered) : Type 0 where
    pub cover : IsCover from c
    pub values : AllByRecursion (HasValue f) c.stretches
    pub below : c.reached ≤ end
    pub none : (s e t : ℕ) (v : Value) → get content (number ∷ s ∷ []) ≡ Some (e, v) → s ≤ t → t ≤ e → c.reached ≤ t → t < end → ⊥

  is_filled : (from least : ℕ) (is : List Interval) (c : Covered) → ArePending content number end c.reached least is → IsCover from c → AllByRecursion (HasValue f) c.stretches → IsFilled from (filled end is c)
  is_filled from least [] c p h g = record { cover = h; values = g; below = p.below; none = λ s e t v k begun lasts late lt. (p.whole s e t v k begun lasts late lt).member }
  is_filled from least (i ∷ is) c p h g =
      is_filled from (i.end + 1) is (extended (min end (i.end + 1)) i.value (extended i.start Null c)) (next_pending i is c least p)
      (cover_extended from (min end (i.end + 1)) i.value (extended i.start Null c) (cover_extended from i.start Null c h)) (next_values from i is c least p h g)

  ended_values : (from : ℕ) (p : Option Since) (c : Covered) → o ≡ p → IsFilled from c → AllByRecursion (HasValue f) (ended end p c).stretches
  ended_values from None c e h = values_extended f from end Null c h.cover h.values (λ t late lt. gap_value t (λ s k v g begun lasts. h.none s k t v g begun lasts late lt) (λ s is. absurd (some_none s (sym e ∙ is))) lt)
    where
      some_none : (s : Since) → None ≡ Some s → ⊥
      some_none s is = absurd (cc)
  ended_values from (Some since) c e h =
      values_extended f from end since.value (extended (min end since.start) Null c) (cover_extended from (min end since.start) Null c h.cover)
      (values_extended f from (min end since.start) Null c h.cover h.values (λ t late lt. gap_value t (λ s k v g begun lasts. h.none s k t v g begun lasts late (omega (arith, lt))) (λ s is. early t s is lt) (omega (arith, lt))))
      (λ t late lt. sym (said.says t since.value lt (is_open t late lt)))
    where
      early : (t : ℕ) (s : Since) → o ≡ Some s → t < min end since.start → t < s.start
      early t s is lt =
          let same : since ≡ s = ap (λ (q' : Option Since). unwrap_or q' s) (sym e ∙ is) in
          let start = ap (λ (r : Since). r.start) same in
          omega (arith, start, lt)

      is_open : (t : ℕ) → (extended (min end since.start) Null c).reached ≤ t → t < end → IsValueSince o content number t since.value
      is_open t late lt =
          let reached = (reached_extended (min end since.start) Null c).to_by in
          rw (e, le-leb since.start t (omega (arith, reached, late, lt))) refl

-- ---- from where it begins
pub over_pending : (content : Content) (number from end : ℕ) (is : List Interval) → from < end → AreOver content number from (end - 1) is → ArePending content number end from 0 is
over_pending content number from end is lt over = record {
  below = omega arith;
  held = all_members (IsHeld content) is (λ i m. over.held i (contained i is m));
  of = all_members (λ i. i.number ≡ number) is (λ i m. over.of i (contained i is m));
  begins = all_members (λ i. i.start < end) is (λ i m. let b = (over.met i (contained i is m)).begins in omega (arith, b, lt));
  follow = over.order;
  whole = λ s e t v g begun lasts late early. awaited s (over.whole s e v g (omega (arith, begun, early)) (omega (arith, late, lasts)));
}
  where
    awaited : (s : ℕ) → HasStart is s → IsAwaited is s
    awaited s h = record { interval = h.interval; member = member_in h.interval is h.listed; begins = h.begins }

-- they don't go past the end
pub filled_within : (end : ℕ) (is : List Interval) (c : Covered) → AllByRecursion (λ i. i.start < end) is → c.reached ≤ end → (filled end is c).reached ≤ end
filled_within end [] c b le = le
filled_within end (i ∷ is) c b le =
    filled_within end is (extended (min end (i.end + 1)) i.value (extended i.start Null c)) b.1
    (within _ _ _ end (reached_extended (min end (i.end + 1)) i.value (extended i.start Null c)) (within _ _ _ end (reached_extended i.start Null c) le (omega (arith, b.0))) (omega arith))

pub filled_below : (content : Content) (number from end : ℕ) (is : List Interval) → from < end → AreOver content number from (end - 1) is → (filled end is (begun from)).reached ≤ end
filled_below content number from end is lt over = filled_within end is (begun from) (over_pending content number from end is lt over).begins (omega arith)

pub begun_cover : (from : ℕ) → IsCover from (begun from)
begun_cover from = record { tile = refl; differ = tt }

-- the values of all stretches
pub all_values : (content : Content) (o : Option Since) (number from end : ℕ) (is : List Interval) (f : ℕ → Value) → from < end → AreOver content number from (end - 1) is → Says content o number end f → AllByRecursion (HasValue f) (ended end o (filled end is (begun from))).stretches
all_values content o number from end is f lt over said =
    ended_values content o number end f said from o (filled end is (begun from)) refl (is_filled content o number end f said from 0 is (begun from) (over_pending content number from end is lt over) (begun_cover from) tt)

-- how far it goes in the end
pub ended_reach : (end : ℕ) (p : Option Since) (c : Covered) → c.reached ≤ end → (ended end p c).reached ≡ end
ended_reach end None c le =
    let r = reached_extended end Null c in
    let b = within _ _ _ end r le (omega arith) in
    omega (arith, r.to_by, b)
ended_reach end (Some since) c le =
    let q = reached_extended (min end since.start) Null c in
    let b = within _ _ _ end q le (omega arith) in
    let r = reached_extended end since.value (extended (min end since.start) Null c) in
    let d = within _ _ _ end r b (omega arith) in
    omega (arith, r.to_by, d)
