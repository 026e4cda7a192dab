-- The events of some hosts in a merge: they stand as in the list of a host that stands above all of them.
use Rattle.std.proofs.Common.{◌≡◌, ◌≢◌, ◌<◌, ◌≤◌, ◌+◌, ℕ, zero, suc, Bool, true, false, cond, Some, List, [], ◌∷◌, ◌++◌, length, map, filter, slice_get, refl, sym, ap, ap₂, ◌∙◌, subst, arith}
use Rattle.std.specs.List.{flat_map, range_with_len}
use Rattle.std.proofs.lemmas.Bool.{eq-eqb}
use Rattle.std.proofs.lemmas.List.{append-nil}
use Rattle.std.proofs.lemmas.List.Elements.{filter-append}
use Rattle.std.proofs.lemmas.Option.{slice_get_within}
use Rattle.clock_fraction.specs.declared.pair_map.PairMap.{PairMap}
use Rattle.host_tree.specs.declared.parent.Parent.{Parent}
use Rattle.host_tree.specs.declared.parent.Parent.TheVariants.{Root, Child}
use Rattle.host_tree.specs.Rooted.{IsAtDepth, LeadToRoots}
use Rattle.host_tree.proofs.Gets.{within}
use Rattle.stable_sort.proofs.Unique.{InOrder, sorted_rises}
use Rattle.trace_types.specs.declared.event.Event.{Event}
use Rattle.trace_types.specs.declared.event.Merged.{Merged}
use Rattle.trace_types.specs.declared.host.HostEvents.{HostEvents}
use Rattle.host_merge.specs.Kept.{HasListed}
use Rattle.host_merge.specs.Merge.{IsMergeOf, by_key, children_of, is_parent, is_root, roots_of, with_own_time}
use Rattle.host_merge.proofs.Brought.{brought_events, brought_filter, brought_order, event_of, key_of, none_brought}
use Rattle.host_merge.proofs.Filters.{filter_flat, filter_order, filter_sorted, flat_none, flat_one, sorted_same}
use Rattle.host_merge.proofs.Levels.{is_parent_of}
use Rattle.host_merge.proofs.Up.{OnWay, Up, also_above, joined_up, no_deeper, one_at_depth, root_above, up_depth, up_within}
use Rattle.host_merge.proofs.Ways.{above, depth_below, depth_within, one_depth}
use Rattle.host_merge.proofs.Wholes.{root_is}

-- own events that all fail a test
none_own : (q : Event → Bool) (events : List Event) → ((k : ℕ) (e : Event) → slice_get events k ≡ Some e → q e ≡ true → ⊥) → filter (λ m. q m.event) (map with_own_time events) ≡ []
none_own q [] none = refl
none_own q (e ∷ es) none = by (q e) (none 0 e refl) (none_own q es (λ k x at. none (suc k) x at))
  where
    by : (b : Bool) → (b ≡ true → ⊥) → filter (λ m. q m.event) (map with_own_time es) ≡ [] → cond b (with_own_time e ∷ filter (λ m. q m.event) (map with_own_time es)) (filter (λ m. q m.event) (map with_own_time es)) ≡ []
    by true wrong rest = absurd (wrong refl)
    by false wrong rest = rest

module _ (parents : List Parent) (hosts : List HostEvents) (merged : List Merged) (same : length parents ≡ length hosts) (rooted : LeadToRoots parents) (merge : IsMergeOf parents hosts merged)
    (q : Event → Bool) (Mine : ℕ → Type 0) (mine : (u k : ℕ) (e : Event) → HasListed hosts u k e → q e ≡ true → Mine u) where
  -- of a list, the events that pass the test
  abbrev pub part : List Merged → List Merged
  part xs = filter (λ m. q m.event) xs

  part_order : (xs : List Merged) → InOrder key_of (part (by_key xs))
  part_order xs = filter_order key_of (λ m. q m.event) (by_key xs) (sorted_rises key_of xs)

  host_at : (u : ℕ) → u < length parents → (host : HostEvents) × (slice_get hosts u ≡ Some host)
  host_at u h = within hosts u (omega arith)

  -- a host's part, of its own events and of its children's
  part_is : (u : ℕ) (host : HostEvents) → slice_get hosts u ≡ Some host → part (merge.lists u) ≡ by_key (part (map with_own_time host.events.items) ++ flat_map (λ c. part (merge.brought c)) (children_of parents u))
  part_is u host e =
      ap part (merge.of_host u host e)
      ∙ (filter_sorted key_of (λ m. q m.event) (map with_own_time host.events.items ++ flat_map merge.brought (children_of parents u))
      ∙ ap by_key (filter-append (λ m. q m.event) (map with_own_time host.events.items) (flat_map merge.brought (children_of parents u))
      ∙ ap (λ l. part (map with_own_time host.events.items) ++ l) (filter_flat (λ m. q m.event) merge.brought (children_of parents u))))

  -- no host of the part stands below this one, nor is it one
  abbrev pub IsQuiet : ℕ → Type 0
  IsQuiet c = (h : ℕ) → Mine h → ¬ OnWay parents h c

  quiet_own : (c : ℕ) (host : HostEvents) → slice_get hosts c ≡ Some host → IsQuiet c → part (map with_own_time host.events.items) ≡ []
  quiet_own c host e quiet = none_own q host.events.items (λ k x at t. quiet c (mine c k x (record { host = host; of_host = e; at = at }) t) (0, refl))

  quiet : (k c d : ℕ) → IsAtDepth parents d c → length parents ≤ d + k → IsQuiet c → part (merge.lists c) ≡ []
  quiet zero c d a long is = absurd (omega (arith, depth_below parents rooted d c a))
  quiet (suc k) c d a long is =
      let h = host_at c (depth_within parents d c a) in
      part_is c h.0 h.1 ∙ ap by_key (ap₂ (λ x y. x ++ y) (quiet_own c h.0 h.1 is) (flat_none (λ b. part (merge.brought b)) (λ b. is_parent c (slice_get parents b)) (range_with_len 0 (length parents)) (λ b t.
      let p = is_parent_of c (slice_get parents b) t in
      let at = rooted b (slice_get_within parents b (Child c p.0) p.1) in
      let up = above parents at.0 b c p.0 p.1 at.1 in
      let same_depth = one_depth parents up.0 d c up.2 a in
      none_brought p.0 (part (merge.lists b)) (part (merge.brought b)) (brought_filter q p.0 (merge.lists b) (merge.brought b) (merge.moved b c p.0 p.1))
      (quiet k b at.0 at.1 (omega (arith, up.1, same_depth)) (λ h m w. is h m (also_above parents h b c p.0 p.1 w))))))

  pub quiet_list : (c : ℕ) → c < length parents → IsQuiet c → part (merge.lists c) ≡ []
  quiet_list c h is = let a = rooted c h in quiet (length parents) c a.0 a.1 (omega arith) is

  pub quiet_brought : (c u : ℕ) (m : PairMap) → slice_get parents c ≡ Some (Child u m) → IsQuiet c → part (merge.brought c) ≡ []
  quiet_brought c u m e is =
      none_brought m (part (merge.lists c)) (part (merge.brought c)) (brought_filter q m (merge.lists c) (merge.brought c) (merge.moved c u m e))
      (quiet_list c (slice_get_within parents c (Child u m) e) is)

  -- a host whose children are quiet, but for one
  pub part_with_child : (u child : ℕ) (m : PairMap) (host : HostEvents) → slice_get hosts u ≡ Some host → slice_get parents child ≡ Some (Child u m) → ((c : ℕ) (n : PairMap) → slice_get parents c ≡ Some (Child u n) → c ≢ child → IsQuiet c)
      → part (merge.lists u) ≡ by_key (part (map with_own_time host.events.items) ++ part (merge.brought child))
  part_with_child u child m host e at others =
      part_is u host e ∙ ap (λ l. by_key (part (map with_own_time host.events.items) ++ l))
      (flat_one (λ b. part (merge.brought b)) (λ b. is_parent u (slice_get parents b)) child (length parents) (slice_get_within parents child (Child u m) at) (ap (is_parent u) at ∙ eq-eqb u u refl)
      (λ b t ne. let p = is_parent_of u (slice_get parents b) t in quiet_brought b u p.0 p.1 (others b p.0 p.1 ne)))

  -- a host whose children are all quiet
  pub part_alone : (u : ℕ) (host : HostEvents) → slice_get hosts u ≡ Some host → ((c : ℕ) (n : PairMap) → slice_get parents c ≡ Some (Child u n) → IsQuiet c) → part (merge.lists u) ≡ by_key (part (map with_own_time host.events.items))
  part_alone u host e all =
      part_is u host e ∙ ap by_key (ap (λ l. part (map with_own_time host.events.items) ++ l)
      (flat_none (λ b. part (merge.brought b)) (λ b. is_parent u (slice_get parents b)) (range_with_len 0 (length parents)) (λ b t. let p = is_parent_of u (slice_get parents b) t in quiet_brought b u p.0 p.1 (all b p.0 p.1)))
      ∙ append-nil _)

  module _ (top : ℕ) (top_in : top < length parents) (below : (h : ℕ) → Mine h → OnWay parents h top) where
    -- beside a host on the way up, none of its depth has a part
    beside : (a c d : ℕ) → OnWay parents top a → IsAtDepth parents d a → IsAtDepth parents d c → c ≢ a → IsQuiet c
    beside a c d way at beside_at ne h m w =
        let up = below h m in
        let through = joined_up parents h top a up.0 way.0 up.1 way.1 in
        let hd = rooted h (up_within parents up.0 h top up.1 top_in) in
        ne (sym (one_at_depth parents h a c hd.0 d through w hd.1 at beside_at))

    -- above the top, hosts have no part of their own
    own_above : (i a : ℕ) (host : HostEvents) → Up parents top (suc i) a → slice_get hosts a ≡ Some host → part (map with_own_time host.events.items) ≡ []
    own_above i a host u e = none_own q host.events.items (λ k x at t.
        let m = mine a k x (record { host = host; of_host = e; at = at }) t in
        let td = rooted top top_in in
        let up = up_depth parents (suc i) top a td.0 u td.1 in
        let low = no_deeper parents a top up.0 td.0 (below a m) up.2 td.1 in
        omega (arith, up.1, low))

    order_of : (a : ℕ) → a < length parents → InOrder key_of (part (merge.lists a))
    order_of a h = let x = host_at a h in subst (λ l. InOrder key_of (part l)) (sym (merge.of_host a x.0 x.1)) (part_order (map with_own_time x.0.events.items ++ flat_map merge.brought (children_of parents a)))

    climb : (i a : ℕ) → Up parents top i a → map event_of (part (merge.lists a)) ≡ map event_of (part (merge.lists top))
    climb zero a u = ap (λ x. map event_of (part (merge.lists x))) (sym u)
    climb (suc i) a u =
        let b = u.0 in
        let m = u.1 in
        let e = u.3 in
        let b_in = slice_get_within parents b (Child a m) e in
        let bd = rooted b b_in in
        let ad = above parents bd.0 b a m e bd.1 in
        let h = host_at a (depth_within parents ad.0 a ad.2) in
        let moved = brought_filter q m (merge.lists b) (merge.brought b) (merge.moved b a m e) in
        let others : (c : ℕ) (n : PairMap) → slice_get parents c ≡ Some (Child a n) → c ≢ b → IsQuiet c = λ c n f ne.
        let cd = rooted c (slice_get_within parents c (Child a n) f) in
        let up = above parents cd.0 c a n f cd.1 in
        let depth : cd.0 ≡ bd.0 = omega (arith, up.1, ad.1, one_depth parents up.0 ad.0 a up.2 ad.2) in
        beside b c bd.0 (i, u.2) bd.1 (subst (λ d. IsAtDepth parents d c) depth cd.1) ne in
        let sorted : part (merge.lists a) ≡ part (merge.brought b) =
        part_with_child a b m h.0 h.1 e others
        ∙ (ap (λ l. by_key (l ++ part (merge.brought b))) (own_above i a h.0 u h.1)
        ∙ sorted_same key_of (part (merge.brought b)) (brought_order m (part (merge.lists b)) (part (merge.brought b)) moved (order_of b b_in))) in
        ap (map event_of) sorted ∙ (brought_events m (part (merge.lists b)) (part (merge.brought b)) moved ∙ climb i b u.2)

    -- in the merge, these events stand as in the top's list
    pub part_of_merge : map event_of (part merged) ≡ map event_of (part (merge.lists top))
    part_of_merge =
        let td = rooted top top_in in
        let r = root_above parents td.0 top td.1 in
        let r_in = slice_get_within parents r.0 Root r.2 in
        let alone : flat_map (λ c. part (merge.lists c)) (roots_of parents) ≡ part (merge.lists r.0) =
        flat_one (λ c. part (merge.lists c)) (λ c. is_root (slice_get parents c)) r.0 (length parents) r_in (ap is_root r.2)
        (λ c t ne. quiet_list c (slice_get_within parents c Root (root_is (slice_get parents c) t)) (beside r.0 c 0 r.1 r.2 (root_is (slice_get parents c) t) ne)) in
        ap (map event_of) (
        ap part merge.whole
        ∙ (filter_sorted key_of (λ m. q m.event) (flat_map merge.lists (roots_of parents))
        ∙ (ap by_key (filter_flat (λ m. q m.event) merge.lists (roots_of parents) ∙ alone) ∙ sorted_same key_of (part (merge.lists r.0)) (order_of r.0 r_in))))
        ∙ climb r.1.0 r.0 r.1.1

  -- where no host has a part, neither has the merge
  pub no_part : ((u : ℕ) → ¬ Mine u) → part merged ≡ []
  no_part none =
      ap part merge.whole
      ∙ (filter_sorted key_of (λ m. q m.event) (flat_map merge.lists (roots_of parents))
      ∙ ap by_key (filter_flat (λ m. q m.event) merge.lists (roots_of parents)
      ∙ flat_none (λ c. part (merge.lists c)) (λ c. is_root (slice_get parents c)) (range_with_len 0 (length parents)) (λ c t. quiet_list c (slice_get_within parents c Root (root_is (slice_get parents c) t)) (λ h m. absurd (none h m)))))
