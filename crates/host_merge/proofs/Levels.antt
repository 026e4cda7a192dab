-- The lists of hosts while they are brought up, level by level.
use Rattle.std.proofs.Common.{◌≡◌, ◌<◌, ◌≤◌, ◌+◌, ◌-◌, ◌⊎◌, inl, inr, ℕ, zero, suc, Bool, true, false, Option, None, Some, List, [], ◌++◌, length, map, get_or, slice_get, unwrap_or, refl, sym, ap, ◌∙◌, subst, arith, append_assoc}
use Rattle.std.specs.List.{flat_map}
use Rattle.std.proofs.lemmas.Bool.{cases_eq, eq-eqb, ne_eqb, eqb-true}
use Rattle.std.proofs.lemmas.List.{append-nil}
use Rattle.std.proofs.lemmas.Option.{slice_get_within, unwrap_or-slice_get}
use Rattle.clock_fraction.specs.declared.pair_map.PairMap.{PairMap}
use Rattle.host_tree.specs.declared.parent.Parent.{Parent}
use Rattle.host_tree.specs.declared.parent.Parent.TheVariants.{Root, Child}
use Rattle.host_tree.specs.Rooted.{IsAtDepth, LeadToRoots}
use Rattle.host_tree.proofs.Gets.{one_get, within}
use Rattle.trace_types.specs.declared.event.Merged.{Merged}
use Rattle.host_merge.specs.Depths.{AreDepths}
use Rattle.host_merge.specs.Lists.{AllAreTimed, AreBroughtUp, AreTimed, IsBroughtUp, sorted_at}
use Rattle.host_merge.specs.Merge.{AreBrought, by_key, children_below, children_of, is_parent}
use Rattle.host_merge.proofs.Brought.{key_of}
use Rattle.host_merge.proofs.Filters.{sorted_joined}
use Rattle.host_merge.proofs.Joins.{sorted_is, timed_joined}
use Rattle.host_merge.proofs.Ranges.{below_no, below_yes, flat_push, flat_same}
use Rattle.host_merge.proofs.Times.{are_brought, brought_is, brought_to}
use Rattle.host_merge.proofs.Ways.{above, depth_below, depth_within, one_depth, root_depth}

-- what a host's list is for its parent
pub to_parent : Option Parent → List Merged → List Merged
to_parent None events = []
to_parent (Some Root) events = []
to_parent (Some (Child parent m)) events = map (brought_to m) events

pub is_parent_of : (u : ℕ) (o : Option Parent) → is_parent u o ≡ true → (m : PairMap) × (o ≡ Some (Child u m))
is_parent_of u None e = absurd (cc)
is_parent_of u (Some Root) e = absurd (cc)
is_parent_of u (Some (Child p m)) e = (m, ap (λ x. Some (Child x m)) (eqb-true p u e))

not_parent_of : (u p : ℕ) (m : PairMap) (o : Option Parent) → o ≡ Some (Child p m) → (u ≡ p → ⊥) → is_parent u o ≡ false
not_parent_of u p m o e ne = ap (is_parent u) e ∙ ne_eqb p u (λ s. ne (sym s))

module _ (parents : List Parent) (own : List (List Merged)) where
  pub own_at : ℕ → List Merged
  own_at u = unwrap_or (slice_get own u) []

  -- a host's list, of so many levels
  tree_list : ℕ → ℕ → List Merged
  tree_list zero u = []
  tree_list (suc k) u = by_key (own_at u ++ flat_map (λ c. to_parent (slice_get parents c) (tree_list k c)) (children_of parents u))

  module _ (depths : List ℕ) (rooted : LeadToRoots parents) (are : AreDepths parents depths) where
    pub depth : ℕ → ℕ
    depth u = unwrap_or (slice_get depths u) 0

    pub depth_is : (u : ℕ) → u < length parents → IsAtDepth parents (depth u) u
    unfolding depth
    depth_is u h = let w = within depths u (omega (arith, are.count)) in subst (λ o. IsAtDepth parents (unwrap_or o 0) u) (sym w.1) (are.each u w.0 w.1)

    pub depth_read : (u : ℕ) → depth u ≡ get_or depths u 0
    unfolding depth
    depth_read u = unwrap_or-slice_get depths u 0

    low : (u : ℕ) → u < length parents → depth u < length parents
    low u h = depth_below parents rooted (depth u) u (depth_is u h)

    -- a child stands one level below its parent
    pub below_parent : (c u : ℕ) (m : PairMap) → slice_get parents c ≡ Some (Child u m) → (u < length parents) × (depth c ≡ suc (depth u))
    below_parent c u m e =
        let inside = slice_get_within parents c (Child u m) e in
        let up = above parents (depth c) c u m e (depth_is c inside) in
        let u_in = depth_within parents up.0 u up.2 in
        (u_in, up.1 ∙ ap suc (one_depth parents up.0 (depth u) u up.2 (depth_is u u_in)))

    pub lists : ℕ → List Merged
    lists u = tree_list (length parents - depth u) u

    pub brought : ℕ → List Merged
    brought c = to_parent (slice_get parents c) (lists c)

    own_is : (u : ℕ) (l : List Merged) → slice_get own u ≡ Some l → own_at u ≡ l
    unfolding own_at
    own_is u l e = ap (λ o. unwrap_or o []) e

    below_list : (k u : ℕ) → length parents - depth u ≡ suc k → u < length parents → lists u ≡ by_key (own_at u ++ flat_map brought (children_of parents u))
    unfolding lists brought tree_list
    below_list k u e h =
        ap (λ n. tree_list n u) e
        ∙ ap (λ l. by_key (own_at u ++ l)) (flat_same (λ c. to_parent (slice_get parents c) (tree_list k c)) (λ c. to_parent (slice_get parents c) (tree_list (length parents - depth c) c)) (λ c. is_parent u (slice_get parents c)) _
        (λ c t.
        let p = is_parent_of u (slice_get parents c) t in
        let d = below_parent c u p.0 p.1 in
        let same : k ≡ length parents - depth c = omega (arith, d.1, e) in
        ap (λ n. to_parent (slice_get parents c) (tree_list n c)) same))

    list_is : (u : ℕ) → u < length parents → lists u ≡ by_key (own_at u ++ flat_map brought (children_of parents u))
    list_is u h = let l = low u h in let k = length parents - depth u - 1 in below_list k u (omega arith) h

    -- the lists when the deeper levels, and of one level the hosts below a number, are brought up
    pub record AreAtLevel (level host : ℕ) (new : List (List Merged)) : Type 0 where
      pub count : length new ≡ length parents
      pub far : (u : ℕ) → u < length parents → depth u + 1 < level → slice_get new u ≡ Some (own_at u)
      pub near : (u : ℕ) → u < length parents → depth u + 1 ≡ level → sorted_at new u ≡ by_key (own_at u ++ flat_map brought (children_below parents u host))
      pub here : (u : ℕ) → u < length parents → depth u ≡ level → host ≤ u → sorted_at new u ≡ by_key (own_at u ++ flat_map brought (children_of parents u))
      pub timed : AllAreTimed new

    own_there : length parents ≡ length own → (u : ℕ) → u < length parents → slice_get own u ≡ Some (own_at u)
    own_there same u h = let w = within own u (omega arith) in w.1 ∙ ap Some (sym (own_is u w.0 w.1))

    untouched : (new : List (List Merged)) (u : ℕ) → slice_get new u ≡ Some (own_at u) → sorted_at new u ≡ by_key (own_at u ++ [])
    untouched new u e = sorted_is new u (own_at u) e ∙ ap by_key (sym (append-nil (own_at u)))

    pub first_level : length parents ≡ length own → AllAreTimed own → AreAtLevel (length parents) 0 own
    first_level same timed = record {
      count = sym same;
      far = λ u h d. own_there same u h;
      near = λ u h d. untouched own u (own_there same u h);
      here = λ u h d b. absurd (omega (arith, low u h));
      timed = timed;
    }

    pub next_level : (level : ℕ) (new : List (List Merged)) → AreAtLevel (suc level) (length parents) new → AreAtLevel level 0 new
    next_level level new a = record {
      count = a.count;
      far = λ u h d. a.far u h (omega arith);
      near = λ u h d. untouched new u (a.far u h (omega arith));
      here = λ u h d b. a.near u h (omega arith);
      timed = a.timed;
    }

    -- a host of another level is passed over
    pub passed_over : (level host : ℕ) (new : List (List Merged)) → host < length parents → (depth host ≡ level → ⊥) → AreAtLevel level host new → AreAtLevel level (host + 1) new
    passed_over level host new inside other a = record {
      count = a.count;
      far = a.far;
      near = λ u h d. a.near u h d ∙ ap (λ l. by_key (own_at u ++ flat_map brought l)) (sym (below_no (λ c. is_parent u (slice_get parents c)) host (no_child u d (is_parent u (slice_get parents host)) refl)));
      here = λ u h d b. a.here u h d (omega arith);
      timed = a.timed;
    }
      where
        no_child : (u : ℕ) → depth u + 1 ≡ level → (b : Bool) → is_parent u (slice_get parents host) ≡ b → is_parent u (slice_get parents host) ≡ false
        no_child u d true e = let p = is_parent_of u (slice_get parents host) e in let s = below_parent host u p.0 p.1 in absurd (other (omega (arith, s.1, d)))
        no_child u d false e = e

    as_before : (old new : List (List Merged)) (u : ℕ) → slice_get new u ≡ slice_get old u → sorted_at new u ≡ sorted_at old u
    as_before old new u e = ap (λ o. by_key (unwrap_or o [])) e

    near_more : (level host parent u : ℕ) (m : PairMap) (old new : List (List Merged)) → u < length parents → depth u + 1 ≡ level → depth host ≡ level → slice_get parents host ≡ Some (Child parent m)
        → IsBroughtUp host parent m old new → AreAtLevel level host old → sorted_at new parent ≡ by_key (own_at parent ++ flat_map brought (children_below parents parent (host + 1)))
        → (u ≡ parent) ⊎ (u ≡ parent → ⊥) → sorted_at new u ≡ by_key (own_at u ++ flat_map brought (children_below parents u (host + 1)))
    near_more level host parent u m old new h d at e up a there (inl same) = subst (λ x. sorted_at new x ≡ by_key (own_at x ++ flat_map brought (children_below parents x (host + 1)))) (sym same) there
    near_more level host parent u m old new h d at e up a there (inr ne) =
        as_before old new u (up.others u (λ s. omega (arith, at, d, ap depth s)) ne)
        ∙ (a.near u h d ∙ ap (λ l. by_key (own_at u ++ flat_map brought l)) (sym (below_no (λ c. is_parent u (slice_get parents c)) host (not_parent_of u parent m (slice_get parents host) e ne))))

    timed_more : (level host parent k : ℕ) (m : PairMap) (l n : List Merged) (old new : List (List Merged)) → IsBroughtUp host parent m old new → AreAtLevel level host old → slice_get new k ≡ Some l
        → slice_get new parent ≡ Some n → AreTimed n → (k ≡ parent) ⊎ (k ≡ parent → ⊥) → (k ≡ host) ⊎ (k ≡ host → ⊥) → AreTimed l
    timed_more level host parent k m l n old new up a e there timed (inl same) other = subst AreTimed (one_get new k n l (ap (slice_get new) same ∙ there) e) timed
    timed_more level host parent k m l n old new up a e there timed (inr ne) (inl same) = subst AreTimed (one_get new k [] l (ap (slice_get new) same ∙ up.emptied) e) tt
    timed_more level host parent k m l n old new up a e there timed (inr ne) (inr not) = a.timed k l (sym (up.others k not ne) ∙ e)

    -- a host of the level is brought to its parent
    pub one_brought_up : (level host parent : ℕ) (m : PairMap) (old new : List (List Merged)) → host < length parents → depth host ≡ level → slice_get parents host ≡ Some (Child parent m)
        → IsBroughtUp host parent m old new → AreAtLevel level host old → AreAtLevel level (host + 1) new
    unfolding brought to_parent lists
    one_brought_up level host parent m old new inside at e up a =
        let p = below_parent host parent m e in
        let mine = within old host (omega (arith, a.count)) in
        let theirs = within old parent (omega (arith, a.count, p.0)) in
        let before : List Merged = own_at parent ++ flat_map brought (children_below parents parent host) in
        let own_order : by_key mine.0 ≡ by_key (own_at host ++ flat_map brought (children_of parents host)) = sym (sorted_is old host mine.0 mine.1) ∙ a.here host inside at (omega arith) in
        let their_order : by_key theirs.0 ≡ by_key before = sym (sorted_is old parent theirs.0 theirs.1) ∙ a.near parent p.0 (omega (arith, p.1, at)) in
        let j = up.joined mine.0 theirs.0 mine.1 theirs.1 in
        let is : j.2.brought ≡ brought host = is_brought j.2.brought (subst (λ l. AreBrought m l j.2.brought) own_order j.2.are) in
        let there : sorted_at new parent ≡ by_key (own_at parent ++ flat_map brought (children_below parents parent (host + 1))) =
        sorted_is new parent j.0 j.1 ∙ (j.2.in_order ∙ (sorted_joined key_of theirs.0 before j.2.brought their_order
        ∙ ap by_key (ap (λ l. before ++ l) is
        ∙ (append_assoc (own_at parent) (flat_map brought (children_below parents parent host)) (brought host)
        ∙ ap (λ l. own_at parent ++ l) (sym (flat_push brought (children_below parents parent host) host)
        ∙ ap (flat_map brought) (sym (below_yes (λ c. is_parent parent (slice_get parents c)) host (ap (is_parent parent) e ∙ eq-eqb parent parent refl)))))))) in
        record {
          count = up.count ∙ a.count;
          far = λ u h d. up.others u (λ s. omega (arith, at, d, ap depth s)) (λ s. omega (arith, p.1, at, d, ap depth s)) ∙ a.far u h d;
          near = λ u h d. near_more level host parent u m old new h d at e up a there (cases_eq u parent);
          here = λ u h d b. as_before old new u (up.others u (λ s. omega (arith, s)) (λ s. omega (arith, p.1, at, d, ap depth s))) ∙ a.here u h d (omega arith);
          timed = λ k l f. timed_more level host parent k m l j.0 old new up a f j.1 (timed_joined m (by_key mine.0) theirs.0 j.0 (a.timed parent theirs.0 theirs.1) j.2) (cases_eq k parent) (cases_eq k host);
        }
      where
        is_brought : (b : List Merged) → AreBrought m (by_key (own_at host ++ flat_map brought (children_of parents host))) b → b ≡ brought host
        is_brought b r = brought_is m _ b r ∙ (ap (map (brought_to m)) (sym (list_is host inside)) ∙ ap (λ o. to_parent o (lists host)) (sym e))

    -- at last the roots have all that stands below them
    pub roots_ready : length parents ≡ length own → (new : List (List Merged)) → AreAtLevel 0 0 new → AreBroughtUp parents own new
    unfolding brought to_parent lists
    roots_ready same new a = record {
      lists = lists;
      brought = brought;
      count = a.count ∙ same;
      of_host = λ u l e. list_is u (inside u l e) ∙ ap (λ x. by_key (x ++ flat_map brought (children_of parents u))) (own_is u l e);
      moved = λ child parent m e. moved child parent m e;
      ready = λ u root.
          let h = slice_get_within parents u Root root in
          a.here u h (root_depth parents (depth u) u root (depth_is u h)) (omega arith) ∙ sym (list_is u h);
    }
      where
        inside : (u : ℕ) (l : List Merged) → slice_get own u ≡ Some l → u < length parents
        inside u l e = omega (arith, slice_get_within own u l e)

        moved : (child parent : ℕ) (m : PairMap) → slice_get parents child ≡ Some (Child parent m) → AreBrought m (lists child) (brought child)
        moved child parent m e = subst (λ o. AreBrought m (lists child) (to_parent o (lists child))) (sym e) (are_brought m (lists child))
