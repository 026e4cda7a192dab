-- Forests whose maps agree give one merge.
use Rattle.std.proofs.Common.{◌≡◌, ◌<◌, ◌≤◌, ◌+◌, ◌-◌, ◌^◌, ◌⊎◌, inl, inr, ℕ, ℤ, pos, zero, suc, Bool, true, false, cond, Option, Some, List, [], ◌∷◌, ◌++◌, length, filter, map, slice_get, refl, sym, ap, ap₂, ◌∙◌, subst, arith}
use Rattle.std.specs.Int.{int_max, int_min}
use Rattle.std.specs.List.{flat_map, range_with_len}
use Rattle.std.proofs.lemmas.Bool.{cases_lt}
use Rattle.std.proofs.lemmas.Int.{ints, clamps}
use Rattle.std.proofs.lemmas.Option.{slice_get_past, slice_get_within}
use Rattle.clock_fraction.specs.declared.pair_map.PairMap.{PairMap}
use Rattle.host_tree.specs.declared.parent.Parent.{Parent}
use Rattle.host_tree.specs.declared.parent.Parent.TheVariants.{Root, Child}
use Rattle.host_tree.specs.Rooted.{IsAtDepth, LeadToRoots}
use Rattle.host_tree.proofs.Gets.{within}
use Rattle.trace_types.specs.declared.event.Event.{Event}
use Rattle.trace_types.specs.declared.event.Merged.{Merged}
use Rattle.trace_types.specs.declared.host.HostEvents.{HostEvents}
use Rattle.host_merge.specs.Lists.{AreTimed}
use Rattle.host_merge.specs.Merge.{AreBrought, HaveTimes, IsMergeOf, by_key, children_of, is_parent, is_root, roots_of, with_own_time}
use Rattle.host_merge.proofs.Joins.{timed_append, timed_sorted}
use Rattle.host_merge.proofs.Levels.{is_parent_of}
use Rattle.host_merge.proofs.Ranges.{flat_same}
use Rattle.host_merge.proofs.Ways.{above, depth_below, depth_within, one_depth}
use Rattle.host_merge.proofs.Wholes.{root_is}
use Rattle.host_sync.proofs.OneFits.{Agree}
use Rattle.host_sync.proofs.Points.{AgreeOnTimes}

-- ---- all keys lie before the end of time

drawn_below : (h : ℤ) (t : ℕ) → pos t ≡ int_max (pos 0) (int_min h (pos (2 ^ 62 - 1))) → t < 2 ^ 62
drawn_below h t e = omega (arith, ints, clamps)

timed_brought : (m : PairMap) (xs ys : List Merged) → AreBrought m xs ys → AreTimed ys
timed_brought m [] [] b = tt
timed_brought m [] (y ∷ ys) b = absurd b
timed_brought m (x ∷ xs) [] b = absurd b
timed_brought m (x ∷ xs) (y ∷ ys) b = let at = b.1 in (drawn_below at.half y.key at.time_is, timed_brought m xs ys b.2)

timed_own : (events : List Event) → ((k : ℕ) (e : Event) → slice_get events k ≡ Some e → e.time < 2 ^ 62) → AreTimed (map with_own_time events)
timed_own [] h = tt
timed_own (e ∷ es) h = (h 0 e refl, timed_own es (λ k x at. h (suc k) x at))

timed_flat : (f : ℕ → List Merged) (p : ℕ → Bool) (xs : List ℕ) → ((x : ℕ) → p x ≡ true → AreTimed (f x)) → AreTimed (flat_map f (filter p xs))
timed_flat f p [] h = tt
timed_flat f p (x ∷ xs) h = by (p x) (h x) (timed_flat f p xs h)
  where
    by : (b : Bool) → (b ≡ true → AreTimed (f x)) → AreTimed (flat_map f (filter p xs)) → AreTimed (flat_map f (cond b (x ∷ filter p xs) (filter p xs)))
    by true here rest = timed_append (f x) (flat_map f (filter p xs)) (here refl) rest
    by false here rest = rest

module _ (parents : List Parent) (hosts : List HostEvents) (merged : List Merged) (same : length parents ≡ length hosts) (times : HaveTimes hosts) (merge : IsMergeOf parents hosts merged) where
  pub timed_list : (u : ℕ) → u < length parents → AreTimed (merge.lists u)
  timed_list u h =
      let w = within hosts u (omega arith) in
      subst AreTimed (sym (merge.of_host u w.0 w.1)) (timed_sorted _ (timed_append _ _ (timed_own w.0.events.items (λ k e at. times.below u k w.0 e w.1 at)) (timed_flat merge.brought (λ c. is_parent u (slice_get parents c)) (range_with_len 0 (length parents)) (λ c t.
      let p = is_parent_of u (slice_get parents c) t in
      timed_brought p.0 (merge.lists c) (merge.brought c) (merge.moved c u p.0 p.1)))))

  pub timed_merge : AreTimed merged
  timed_merge = subst AreTimed (sym merge.whole) (timed_sorted _ (timed_flat merge.lists (λ c. is_root (slice_get parents c)) (range_with_len 0 (length parents)) (λ c t. timed_list c (slice_get_within parents c Root (root_is (slice_get parents c) t)))))

-- ---- maps that agree bring a list to one other

brought_same : (m n : PairMap) (xs ys zs : List Merged) → AgreeOnTimes m n → AreTimed xs → AreBrought m xs ys → AreBrought n xs zs → ys ≡ zs
brought_same m n [] [] [] g h a b = refl
brought_same m n [] [] (z ∷ zs) g h a b = absurd b
brought_same m n [] (y ∷ ys) zs g h a b = absurd a
brought_same m n (x ∷ xs) [] zs g h a b = absurd a
brought_same m n (x ∷ xs) (y ∷ ys) [] g h a b = absurd b
brought_same m n (x ∷ xs) (y ∷ ys) (z ∷ zs) g h a b =
    let key : y.key ≡ z.key = g x.key y.key z.key h.0 a.1 b.1 in
    let event : y.event ≡ z.event = a.0 ∙ sym b.0 in
    let same : y ≡ z = ap₂ (λ k e. record { key = k; event = e }) key event in
    ap₂ (λ v vs. v ∷ vs) same (brought_same m n xs ys zs g h.1 a.2 b.2)

filter_same : (p q : ℕ → Bool) (xs : List ℕ) → ((x : ℕ) → p x ≡ q x) → filter p xs ≡ filter q xs
filter_same p q [] same = refl
filter_same p q (x ∷ xs) same = ap₂ (λ b l. cond b (x ∷ l) l) (same x) (filter_same p q xs same)

agree_parent : (u : ℕ) (p q : Parent) → Agree p q → is_parent u (Some p) ≡ is_parent u (Some q)
agree_parent u Root Root g = refl
agree_parent u Root (Child q n) g = absurd g
agree_parent u (Child p m) Root g = absurd g
agree_parent u (Child p m) (Child q n) g = ap (λ x. is_parent u (Some (Child x m))) g.0

agree_root : (p q : Parent) → Agree p q → is_root (Some p) ≡ is_root (Some q)
agree_root Root Root g = refl
agree_root Root (Child q n) g = absurd g
agree_root (Child p m) Root g = absurd g
agree_root (Child p m) (Child q n) g = refl

agree_child : (p : ℕ) (m : PairMap) (q : Parent) → Agree (Child p m) q → (n : PairMap) × (q ≡ Child p n) × AgreeOnTimes m n
agree_child p m Root g = absurd g
agree_child p m (Child q n) g = (n, ap (λ x. Child x n) (sym g.0), g.2)

module _ (parents more : List Parent) (hosts : List HostEvents) (merged others : List Merged) (same : length parents ≡ length hosts) (as_many : length more ≡ length hosts) (times : HaveTimes hosts) (rooted : LeadToRoots parents)
    (agree : (host : ℕ) (p q : Parent) → slice_get parents host ≡ Some p → slice_get more host ≡ Some q → Agree p q) (a : IsMergeOf parents hosts merged) (b : IsMergeOf more hosts others) where
  tests_same : (f : Option Parent → Bool) → ((p q : Parent) → Agree p q → f (Some p) ≡ f (Some q)) → (x : ℕ) → f (slice_get more x) ≡ f (slice_get parents x)
  tests_same f each x = by (cases_lt x (length parents))
    where
      by : (x < length parents) ⊎ (length parents ≤ x) → f (slice_get more x) ≡ f (slice_get parents x)
      by (inl inside) =
          let p = within parents x inside in
          let q = within more x (omega arith) in
          ap f q.1 ∙ (sym (each p.0 q.0 (agree x p.0 q.0 p.1 q.1)) ∙ ap f (sym p.1))
      by (inr past) = ap f (slice_get_past more x (omega arith) ∙ sym (slice_get_past parents x past))

  ranges : range_with_len 0 (length more) ≡ range_with_len 0 (length parents)
  ranges = ap (range_with_len 0) (as_many ∙ sym same)

  children_same : (u : ℕ) → children_of more u ≡ children_of parents u
  children_same u = ap (filter (λ c. is_parent u (slice_get more c))) ranges ∙ filter_same _ _ (range_with_len 0 (length parents)) (tests_same (is_parent u) (agree_parent u))

  roots_same : roots_of more ≡ roots_of parents
  roots_same = ap (filter (λ c. is_root (slice_get more c))) ranges ∙ filter_same _ _ (range_with_len 0 (length parents)) (tests_same is_root agree_root)

  same_list : (k c d : ℕ) → IsAtDepth parents d c → length parents ≤ d + k → a.lists c ≡ b.lists c
  same_list zero c d at long = absurd (omega (arith, depth_below parents rooted d c at))
  same_list (suc k) c d at long =
      let h = within hosts c (omega (arith, depth_within parents d c at)) in
      a.of_host c h.0 h.1 ∙ (ap (λ l. by_key (map with_own_time h.0.events.items ++ l)) (flat_same a.brought b.brought (λ x. is_parent c (slice_get parents x)) (range_with_len 0 (length parents)) (λ x t.
      let p = is_parent_of c (slice_get parents x) t in
      let inside = slice_get_within parents x (Child c p.0) p.1 in
      let xd = rooted x inside in
      let up = above parents xd.0 x c p.0 p.1 xd.1 in
      let same_depth = one_depth parents up.0 d c up.2 at in
      let q = within more x (omega (arith, inside)) in
      let n = agree_child c p.0 q.0 (agree x (Child c p.0) q.0 p.1 q.1) in
      let lists = same_list k x xd.0 xd.1 (omega (arith, up.1, same_depth)) in
      brought_same p.0 n.0 (a.lists x) (a.brought x) (b.brought x) n.2 (timed_list parents hosts merged same times a x inside) (a.moved x c p.0 p.1)
      (subst (λ l. AreBrought n.0 l (b.brought x)) (sym lists) (b.moved x c n.0 (q.1 ∙ ap Some n.1))))
      ∙ ap (flat_map b.brought) (sym (children_same c)))
      ∙ sym (b.of_host c h.0 h.1))

  pub one_merge : merged ≡ others
  one_merge =
      a.whole ∙ (ap by_key (flat_same a.lists b.lists (λ x. is_root (slice_get parents x)) (range_with_len 0 (length parents)) (λ x t.
      let e = root_is (slice_get parents x) t in
      same_list (length parents) x 0 e (omega arith))
      ∙ ap (flat_map b.lists) (sym roots_same))
      ∙ sym b.whole)
