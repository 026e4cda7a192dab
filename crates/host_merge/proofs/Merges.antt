-- Two lists in order that are merged in one pass.
use Rattle.std.proofs.Common.{◌≡◌, ◌<◌, ◌≤◌, ◌+◌, ℕ, zero, suc, Bool, true, false, if◌then◌else◌, nat_lt, List, [], ◌∷◌, ◌++◌, length, get_or, drop, map, refl, sym, ap, ap₂, ◌∙◌, subst, arith, add-one, append_assoc, lt-ltb}
use Rattle.std.proofs.Math.Seq.{drop-cons}
use Rattle.std.proofs.lemmas.List.{append-nil, drop_all}
use Rattle.clock_fraction.specs.ClockMap.{IsMapAt}
use Rattle.clock_fraction.specs.declared.pair_map.PairMap.{PairMap}
use Rattle.clock_fraction.proofs.Means.{maps_same}
use Rattle.stable_sort.specs.Sorted.{put_in, sorted}
use Rattle.stable_sort.proofs.Unique.{InOrder, NoneBelow, sorted_rises}
use Rattle.trace_types.specs.declared.event.Merged.{Merged}
use Rattle.host_merge.specs.Lists.{IsJoined}
use Rattle.host_merge.specs.Merge.{by_key}
use Rattle.host_merge.proofs.Brought.{brought_order, key_of}
use Rattle.host_merge.proofs.Filters.{put_first, sorted_again, sorted_same, weaker}
use Rattle.host_merge.proofs.Times.{are_brought, brought_timed, brought_to, time_at, time_is}

module _ {X : Type 0} (key : X → ℕ) where
  above_put : (n : ℕ) (x : X) (ys : List X) → n ≤ key x → NoneBelow key n ys → NoneBelow key n (put_in key x ys)
  above_put n x [] h a = (h, tt)
  above_put n x (y ∷ ys) h a = by (nat_lt (key y) (key x)) (above_put n x ys h a.1)
    where
      by : (b : Bool) → NoneBelow key n (put_in key x ys) → NoneBelow key n (if b then y ∷ put_in key x ys else x ∷ y ∷ ys)
      by true rest = (a.0, rest)
      by false rest = (h, a)

  above_sorted : (n : ℕ) (xs : List X) → NoneBelow key n xs → NoneBelow key n (sorted key xs)
  above_sorted n [] a = tt
  above_sorted n (x ∷ xs) a = above_put n x (sorted key xs) a.0 (above_sorted n xs a.1)

  above_append : (n : ℕ) (xs ys : List X) → NoneBelow key n xs → NoneBelow key n ys → NoneBelow key n (xs ++ ys)
  above_append n [] ys a b = b
  above_append n (x ∷ xs) ys a b = (a.0, above_append n xs ys a.1 b)

  -- a least item that stands first stays there
  least_first : (x : X) (xs : List X) → NoneBelow key (key x) xs → sorted key (x ∷ xs) ≡ x ∷ sorted key xs
  least_first x xs a = put_first key x (sorted key xs) (above_sorted (key x) xs a)

  -- what is less than all before it and not above the rest comes first
  less_first : (y : X) (xs ys : List X) → NoneBelow key (suc (key y)) xs → NoneBelow key (key y) ys → sorted key (xs ++ y ∷ ys) ≡ y ∷ sorted key (xs ++ ys)
  less_first y [] ys a b = least_first y ys b
  less_first y (x ∷ xs) ys a b =
      ap (put_in key x) (less_first y xs ys a.1 b) ∙ ap (λ c. if c then y ∷ put_in key x (sorted key (xs ++ ys)) else x ∷ y ∷ sorted key (xs ++ ys)) (lt-ltb (key y) (key x) a.0)

  order_drop : (i : ℕ) (xs : List X) → InOrder key xs → InOrder key (drop i xs)
  order_drop zero xs a = a
  order_drop (suc i) [] a = tt
  order_drop (suc i) (x ∷ xs) a = order_drop i xs a.1

pub order_of_sorted : (xs : List Merged) → xs ≡ by_key xs → InOrder key_of xs
order_of_sorted xs e = subst (InOrder key_of) (sym e) (sorted_rises key_of xs)

pub one_at : (xs : List Merged) (i : ℕ) (x y : Merged) → i < length xs → x ≡ get_or xs i x → y ≡ get_or xs i y → x ≡ y
one_at [] i x y h a b = absurd (omega arith)
one_at (z ∷ zs) zero x y h a b = a ∙ sym b
one_at (z ∷ zs) (suc i) x y h a b = one_at zs i x y (omega arith) a b

drop_next : (xs : List Merged) (i : ℕ) (x : Merged) → i < length xs → x ≡ get_or xs i x → drop i xs ≡ x ∷ drop (i + 1) xs
drop_next xs i x h at = drop-cons xs i x h ∙ ap₂ (λ z zs. z ∷ zs) (sym at) (ap (λ k. drop k xs) (sym (add-one i)))

pub above_end : (n : ℕ) (xs : List Merged) (i : ℕ) → length xs ≤ i → NoneBelow key_of n (drop i xs)
above_end n xs i h = subst (NoneBelow key_of n) (sym (drop_all i xs h)) tt

pub above_from : (n : ℕ) (xs : List Merged) (i : ℕ) (x : Merged) → i < length xs → x ≡ get_or xs i x → n ≤ x.key → InOrder key_of xs → NoneBelow key_of n (drop i xs)
above_from n xs i x h at low order =
    let e = drop_next xs i x h at in
    let o = subst (InOrder key_of) e (order_drop key_of i xs order) in
    subst (NoneBelow key_of n) (sym e) (low, weaker key_of n x.key (drop (i + 1) xs) low o.0)

module _ (m : PairMap) (own others : List Merged) where
  -- all own events and the others, brought to this clock, in order
  pub whole : List Merged
  whole = by_key (own ++ map (brought_to m) others)

  -- the others from a place on, brought to this clock
  pub left : ℕ → List Merged
  left i = map (brought_to m) (drop i others)

  -- what is merged so far stands before what is left of both
  pub record AreMerged (heads : List Merged) (next i : ℕ) : Type 0 where
    pub all : heads ++ by_key (drop next own ++ left i) ≡ whole
    pub within : next ≤ length own

  pub none_merged : AreMerged [] 0 0
  unfolding whole left
  none_merged = record { all = refl; within = omega arith }

  left_next : (i : ℕ) (x : Merged) → i < length others → x ≡ get_or others i x → left i ≡ brought_to m x ∷ left (i + 1)
  unfolding left
  left_next i x h at = ap (map (brought_to m)) (drop_next others i x h at)

  left_order : (i : ℕ) → InOrder key_of others → InOrder key_of (left i)
  unfolding left
  left_order i a = brought_order m (drop i others) (left i) (are_brought m (drop i others)) (order_drop key_of i others a)

  left_above : (i n : ℕ) (x : Merged) → i < length others → x ≡ get_or others i x → InOrder key_of others → n ≤ time_at m x.key → NoneBelow key_of n (left i)
  left_above i n x h at a low =
      let e = left_next i x h at in
      let o = subst (InOrder key_of) e (left_order i a) in
      subst (NoneBelow key_of n) (sym e) (low, weaker key_of n (time_at m x.key) (left (i + 1)) low o.0)

  -- an own event comes next where it is not above the next of the others
  pub own_next : (heads : List Merged) (next i : ℕ) (first x y : Merged) → InOrder key_of own → InOrder key_of others → next < length own → first ≡ get_or own next first → i < length others → x ≡ get_or others i x
      → IsMapAt m x.key y.key → first.key ≤ y.key → AreMerged heads next i → AreMerged (heads ++ first ∷ []) (next + 1) i
  own_next heads next i first x y a b h at k there mapped low merged =
      let same : y.key ≡ time_at m x.key = maps_same m x.key y.key (time_at m x.key) mapped (time_is m x.key) in
      let e = drop_next own next first h at in
      let rest : List Merged = drop (next + 1) own in
      let order = subst (InOrder key_of) e (order_drop key_of next own a) in
      record {
        all =
            append_assoc heads (first ∷ []) (by_key (rest ++ left i))
            ∙ (ap (λ l. heads ++ l) (sym (least_first key_of first (rest ++ left i) (above_append key_of first.key rest (left i) order.0 (left_above i first.key x k there b (omega (arith, same, low))))))
            ∙ (ap (λ l. heads ++ by_key (l ++ left i)) (sym e) ∙ merged.all));
        within = omega arith;
      }

  -- the next of the others comes next where it is below all that is left of the own ones
  pub other_next : (heads : List Merged) (next i : ℕ) (x y : Merged) → InOrder key_of others → i < length others → x ≡ get_or others i x → y.event ≡ x.event → IsMapAt m x.key y.key
      → NoneBelow key_of (suc y.key) (drop next own) → AreMerged heads next i → AreMerged (heads ++ y ∷ []) next (i + 1)
  other_next heads next i x y a h at event mapped above merged =
      let same : y.key ≡ time_at m x.key = maps_same m x.key y.key (time_at m x.key) mapped (time_is m x.key) in
      let is : y ≡ brought_to m x = ap₂ (λ k e. record { key = k; event = e }) same event in
      let e : left i ≡ y ∷ left (i + 1) = left_next i x h at ∙ ap (λ z. z ∷ left (i + 1)) (sym is) in
      let order = subst (InOrder key_of) e (left_order i a) in
      record {
        all =
            append_assoc heads (y ∷ []) (by_key (drop next own ++ left (i + 1)))
            ∙ (ap (λ l. heads ++ l) (sym (less_first key_of y (drop next own) (left (i + 1)) above order.0))
            ∙ (ap (λ l. heads ++ by_key (drop next own ++ l)) (sym e) ∙ merged.all));
        within = merged.within;
      }

  -- at last what is left of the own ones stands at the end
  pub rest_last : (heads : List Merged) (next i : ℕ) → InOrder key_of own → length others ≤ i → AreMerged heads next i → heads ++ drop next own ≡ whole
  unfolding left
  rest_last heads next i a h merged =
      let rest : List Merged = drop next own in
      ap (λ l. heads ++ l) (sym (sorted_same key_of rest (order_drop key_of next own a)) ∙ ap by_key (sym (append-nil rest) ∙ ap (λ l. rest ++ map (brought_to m) l) (sym (drop_all i others h)))) ∙ merged.all

  pub merged_joined : (new : List Merged) → new ≡ whole → IsJoined m others own new
  unfolding whole
  merged_joined new e = record {
    brought = map (brought_to m) others;
    are = are_brought m others;
    timed = brought_timed m others;
    in_order = ap by_key e ∙ sorted_again key_of (own ++ map (brought_to m) others);
  }
