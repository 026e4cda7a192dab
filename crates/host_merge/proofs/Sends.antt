-- Sends stand before receives between a host and its parent.
use Rattle.std.proofs.Common.{◌≡◌, ◌≢◌, ◌<◌, ◌≤◌, ◌==◌, ◌||◌, ◌⊎◌, inl, inr, ℕ, zero, suc, Bool, true, false, cond, Some, List, [], ◌∷◌, ◌++◌, length, map, filter, take, slice_get, count_by, refl, sym, ap, ap₂, ◌∙◌, subst, arith}
use Rattle.std.specs.Option.{option_map}
use Rattle.std.proofs.lemmas.Bool.{cases_lt, eq-eqb, ne_eqb, eqb-true}
use Rattle.std.proofs.lemmas.List.{append-nil}
use Rattle.std.proofs.lemmas.List.Elements.{filter-append}
use Rattle.std.proofs.lemmas.Option.{slice_get-map, slice_get_within}
use Rattle.clock_fraction.specs.ClockMap.{IsMapAt}
use Rattle.clock_fraction.specs.declared.pair_map.PairMap.{PairMap}
use Rattle.host_tree.specs.declared.parent.Parent.{Parent}
use Rattle.host_tree.specs.declared.parent.Parent.TheVariants.{Child}
use Rattle.host_tree.specs.Rooted.{IsAtDepth, LeadToRoots}
use Rattle.stable_sort.proofs.Unique.{InOrder, sorted_rises}
use Rattle.trace_types.specs.declared.event.Event.{Event}
use Rattle.trace_types.specs.declared.event.Merged.{Merged}
use Rattle.trace_types.specs.declared.host.HostEvents.{HostEvents}
use Rattle.host_merge.specs.Kept.{AreInTime, AreOwn, HasListed}
use Rattle.host_merge.specs.Merge.{AreBrought, IsMergeOf, by_key, with_own_time}
use Rattle.host_merge.specs.Placed.{IsAt, is_of}
use Rattle.host_merge.proofs.Brought.{brought_filter, brought_order, event_of, key_of}
use Rattle.host_merge.proofs.Filters.{filter_sorted, sorted_same}
use Rattle.host_merge.proofs.Kept.{all_pass, rises_in_order}
use Rattle.host_merge.proofs.Parts.{part_alone, part_of_merge, part_with_child}
use Rattle.host_merge.proofs.Spots.{AreOf, at_filter, at_filtered, count_rises, keys_rise, same_spot, tie_first}
use Rattle.host_merge.proofs.Up.{OnWay, no_deeper, one_at_depth}
use Rattle.host_merge.proofs.Ways.{above, one_depth}

either : (a b : Bool) → (a || b) ≡ true → (a ≡ true) ⊎ (b ≡ true)
either true b e = inl refl
either false b e = inr e

none_of : (u v : ℕ) (xs : List Merged) → u ≢ v → AreOf v xs → filter (is_of u) xs ≡ []
none_of u v [] ne a = refl
none_of u v (x ∷ xs) ne a = ap (λ b. cond b (x ∷ filter (is_of u) xs) (filter (is_of u) xs)) (ne_eqb x.event.host u (λ s. ne (sym s ∙ a.0))) ∙ none_of u v xs ne a.1

all_of : (v : ℕ) (xs : List Merged) → AreOf v xs → filter (is_of v) xs ≡ xs
all_of v [] a = refl
all_of v (x ∷ xs) a = ap (λ b. cond b (x ∷ filter (is_of v) xs) (filter (is_of v) xs)) (eq-eqb x.event.host v a.0) ∙ ap (λ l. x ∷ l) (all_of v xs a.1)

own_of : (u : ℕ) (events : List Event) → ((k : ℕ) (e : Event) → slice_get events k ≡ Some e → e.host ≡ u) → AreOf u (map with_own_time events)
own_of u [] all = tt
own_of u (e ∷ es) all = (all 0 e refl, own_of u es (λ k x at. all (suc k) x at))

brought_of : (m : PairMap) (h : ℕ) (xs ys : List Merged) → AreBrought m xs ys → AreOf h xs → AreOf h ys
brought_of m h [] [] b a = tt
brought_of m h [] (y ∷ ys) b a = absurd b
brought_of m h (x ∷ xs) [] b a = absurd b
brought_of m h (x ∷ xs) (y ∷ ys) b a = (ap (λ (e : Event). e.host) b.0 ∙ a.0, brought_of m h xs ys b.2 a.1)

brought_get : (m : PairMap) (xs ys : List Merged) (k : ℕ) (y : Merged) → AreBrought m xs ys → slice_get ys k ≡ Some y → (x : Merged) × (slice_get xs k ≡ Some x) × IsMapAt m x.key y.key
brought_get m [] [] k y b at = absurd (cc)
brought_get m [] (z ∷ ys) k y b at = absurd b
brought_get m (x ∷ xs) [] k y b at = absurd b
brought_get m (x ∷ xs) (z ∷ ys) zero y b at = let same : z ≡ y = cc in (x, refl, subst (λ (w : Merged). IsMapAt m x.key w.key) same b.1)
brought_get m (x ∷ xs) (z ∷ ys) (suc k) y b at = brought_get m xs ys k y b.2 at

own_key : (events : List Event) (k : ℕ) (x : Merged) (e : Event) → slice_get (map with_own_time events) k ≡ Some x → slice_get events k ≡ Some e → x.key ≡ e.time
own_key events k x e at f =
    let g : slice_get (map with_own_time events) k ≡ Some (with_own_time e) = slice_get-map with_own_time events k ∙ ap (option_map with_own_time) f in
    let same : x ≡ with_own_time e = cc in
    ap key_of same

module _ (parents : List Parent) (hosts : List HostEvents) (merged : List Merged) (same : length parents ≡ length hosts) (rooted : LeadToRoots parents) (own : AreOwn hosts) (in_time : AreInTime hosts) (merge : IsMergeOf parents hosts merged)
    (u v : ℕ) (m : PairMap) (edge : slice_get parents v ≡ Some (Child u m)) (hu hv : HostEvents) (at_u : slice_get hosts u ≡ Some hu) (at_v : slice_get hosts v ≡ Some hv) where
  abbrev q : Event → Bool
  q e = (e.host == u) || (e.host == v)

  abbrev Mine : ℕ → Type 0
  Mine c = (c ≡ u) ⊎ (c ≡ v)

  abbrev own_u : List Merged
  own_u = map with_own_time hu.events.items

  abbrev own_v : List Merged
  own_v = map with_own_time hv.events.items

  abbrev there : List Merged
  there = filter (λ x. q x.event) (merge.brought v)

  u_in : u < length parents
  u_in = omega (arith, slice_get_within hosts u hu at_u)

  v_in : v < length parents
  v_in = slice_get_within parents v (Child u m) edge

  levels : (d : ℕ) × IsAtDepth parents d u × IsAtDepth parents (suc d) v
  levels =
      let vd = rooted v v_in in
      let up = above parents vd.0 v u m edge vd.1 in
      (up.0, up.2, subst (λ n. IsAtDepth parents n v) up.1 vd.1)

  apart : u ≢ v
  apart e = let l = levels in let d = one_depth parents l.0 (suc l.0) v (subst (IsAtDepth parents l.0) e l.1) l.2 in omega arith

  mine : (c k : ℕ) (x : Event) → HasListed hosts c k x → q x ≡ true → Mine c
  mine c k x listed t = by (either (x.host == u) (x.host == v) t)
    where
      by : ((x.host == u) ≡ true) ⊎ ((x.host == v) ≡ true) → Mine c
      by (inl e) = inl (sym (own c k x listed) ∙ eqb-true x.host u e)
      by (inr e) = inr (sym (own c k x listed) ∙ eqb-true x.host v e)

  below : (h : ℕ) → Mine h → OnWay parents h u
  below h (inl is) = (0, is)
  below h (inr is) = (1, (v, m, is, edge))

  passes_u : (x : Event) → x.host ≡ u → q x ≡ true
  passes_u x e = ap (λ b. b || (x.host == v)) (eq-eqb x.host u e)

  or_true : (b : Bool) → (b || true) ≡ true
  or_true true = refl
  or_true false = refl

  passes_v : (x : Event) → x.host ≡ v → q x ≡ true
  passes_v x e = ap (λ b. (x.host == u) || b) (eq-eqb x.host v e) ∙ or_true (x.host == u)

  host_u : (k : ℕ) (e : Event) → slice_get hu.events.items k ≡ Some e → e.host ≡ u
  host_u k e at = own u k e (record { host = hu; of_host = at_u; at = at })

  host_v : (k : ℕ) (e : Event) → slice_get hv.events.items k ≡ Some e → e.host ≡ v
  host_v k e at = own v k e (record { host = hv; of_host = at_v; at = at })

  -- below the child neither has events
  quiet_below : (c : ℕ) (n : PairMap) → slice_get parents c ≡ Some (Child v n) → (h : ℕ) → Mine h → ¬ OnWay parents h c
  quiet_below c n e h is w =
      let l = levels in
      let cd = rooted c (slice_get_within parents c (Child v n) e) in
      let up = above parents cd.0 c v n e cd.1 in
      let v_level = one_depth parents up.0 (suc l.0) v up.2 l.2 in
      by is l.0 l.1 l.2 cd.0 cd.1 (omega (arith, up.1, v_level))
    where
      by : Mine h → (d : ℕ) → IsAtDepth parents d u → IsAtDepth parents (suc d) v → (b : ℕ) → IsAtDepth parents b c → b ≡ suc (suc d) → ⊥
      by (inl is) d du dv b dc deep = let low = no_deeper parents u c d b (subst (λ x. OnWay parents x c) is w) du dc in omega (arith, deep, low)
      by (inr is) d du dv b dc deep = let low = no_deeper parents v c (suc d) b (subst (λ x. OnWay parents x c) is w) dv dc in omega (arith, deep, low)

  -- nor below the parent's other children
  quiet_beside : (c : ℕ) (n : PairMap) → slice_get parents c ≡ Some (Child u n) → c ≢ v → (h : ℕ) → Mine h → ¬ OnWay parents h c
  quiet_beside c n e ne h is w =
      let l = levels in
      let cd = rooted c (slice_get_within parents c (Child u n) e) in
      let up = above parents cd.0 c u n e cd.1 in
      let u_level = one_depth parents up.0 l.0 u up.2 l.1 in
      let deep : cd.0 ≡ suc l.0 = omega (arith, up.1, u_level) in
      by is l.0 l.1 l.2 (subst (λ d. IsAtDepth parents d c) deep cd.1)
    where
      by : Mine h → (d : ℕ) → IsAtDepth parents d u → IsAtDepth parents (suc d) v → IsAtDepth parents (suc d) c → ⊥
      by (inl is) d du dv dc = let low = no_deeper parents u c d (suc d) (subst (λ x. OnWay parents x c) is w) du dc in omega (arith, low)
      by (inr is) d du dv dc = ne (one_at_depth parents v c v (suc d) (suc d) (subst (λ x. OnWay parents x c) is w) (0, refl) dv dc dv)

  order_u : InOrder key_of own_u
  order_u = rises_in_order 0 own_u (in_time u hu at_u)

  order_v : InOrder key_of own_v
  order_v = rises_in_order 0 own_v (in_time v hv at_v)

  part_v : filter (λ x. q x.event) (merge.lists v) ≡ own_v
  part_v =
      part_alone parents hosts merged same rooted merge q Mine mine v hv at_v quiet_below
      ∙ (ap by_key (all_pass q hv.events.items (λ k e at. passes_v e (host_v k e at))) ∙ sorted_same key_of own_v order_v)

  brought_there : AreBrought m own_v there
  brought_there = subst (λ xs. AreBrought m xs there) part_v (brought_filter q m (merge.lists v) (merge.brought v) (merge.moved v u m edge))

  part_u : filter (λ x. q x.event) (merge.lists u) ≡ by_key (own_u ++ there)
  part_u =
      part_with_child parents hosts merged same rooted merge q Mine mine u v m hu at_u edge quiet_beside
      ∙ ap (λ l. by_key (l ++ there)) (all_pass q hu.events.items (λ k e at. passes_u e (host_u k e at)))

  in_merge : map event_of (filter (λ x. q x.event) merged) ≡ map event_of (by_key (own_u ++ there))
  in_merge = part_of_merge parents hosts merged same rooted merge q Mine mine u u_in below ∙ ap (map event_of) part_u

  of_u : AreOf u own_u
  of_u = own_of u hu.events.items host_u

  of_v : AreOf v there
  of_v = brought_of m v own_v there brought_there (own_of v hv.events.items host_v)

  only_u : filter (is_of u) (by_key (own_u ++ there)) ≡ own_u
  only_u =
      filter_sorted key_of (is_of u) (own_u ++ there)
      ∙ (ap by_key (filter-append (is_of u) own_u there ∙ (ap₂ (λ a b. a ++ b) (all_of u own_u of_u) (none_of u v there apart of_v) ∙ append-nil own_u)) ∙ sorted_same key_of own_u order_u)

  only_v : filter (is_of v) (by_key (own_u ++ there)) ≡ there
  only_v =
      filter_sorted key_of (is_of v) (own_u ++ there)
      ∙ (ap by_key (filter-append (is_of v) own_u there ∙ ap₂ (λ a b. a ++ b) (none_of v u own_u (λ e. apart (sym e)) of_u) (all_of v there of_v))
      ∙ sorted_same key_of there (brought_order m own_v there brought_there order_v))

  spot : (h i k : ℕ) → Mine h → IsAt merged h i k → IsAt (by_key (own_u ++ there)) h i (count_by (λ x. q x.event) (take k merged))
  spot h i k is a = same_spot (filter (λ x. q x.event) merged) (by_key (own_u ++ there)) h i (count_by (λ x. q x.event) (take k merged)) in_merge (at_filtered (λ x. q x.event) merged h i k (covers is) a)
    where
      covers : Mine h → (x : Merged) → is_of h x ≡ true → q x.event ≡ true
      covers (inl e) x t = passes_u x.event (eqb-true x.event.host h t ∙ e)
      covers (inr e) x t = passes_v x.event (eqb-true x.event.host h t ∙ e)

  key_u : (i k : ℕ) (e : Event) → slice_get hu.events.items i ≡ Some e → (a : IsAt (by_key (own_u ++ there)) u i k) → a.event.key ≡ e.time
  key_u i k e f a =
      let at = at_filter (is_of u) (by_key (own_u ++ there)) k i a.event a.there (eq-eqb a.event.event.host u a.of_host) a.before in
      own_key hu.events.items i a.event e (ap (λ l. slice_get l i) (sym only_u) ∙ at) f

  key_v : (j k : ℕ) (e : Event) → slice_get hv.events.items j ≡ Some e → (a : IsAt (by_key (own_u ++ there)) v j k) → IsMapAt m e.time a.event.key
  key_v j k e f a =
      let at = at_filter (is_of v) (by_key (own_u ++ there)) k j a.event a.there (eq-eqb a.event.event.host v a.of_host) a.before in
      let b = brought_get m own_v there j a.event brought_there (ap (λ l. slice_get l j) (sym only_v) ∙ at) in
      subst (λ t. IsMapAt m t a.event.key) (own_key hv.events.items j b.0 e b.1 f) b.2

  back : (s r : ℕ) → count_by (λ x. q x.event) (take s merged) < count_by (λ x. q x.event) (take r merged) → (s < r) ⊎ (r ≤ s) → s < r
  back s r h (inl less) = less
  back s r h (inr more) = absurd (omega (arith, h, count_rises (λ x. q x.event) merged r s more))

  before_child : (i j s r : ℕ) (x : IsAt (by_key (own_u ++ there)) u i s) (y : IsAt (by_key (own_u ++ there)) v j r) → x.event.key ≤ y.event.key → (s < r) ⊎ (r ≤ s) → s < r
  before_child i j s r x y le (inl less) = less
  before_child i j s r x y le (inr more) =
      let ge = keys_rise (by_key (own_u ++ there)) r s y.event x.event (sorted_rises key_of (own_u ++ there)) y.there x.there more in
      tie_first u v own_u there s r x.event y.event apart of_u of_v x.there y.there x.of_host y.of_host (omega arith)

  before_parent : (i j s r : ℕ) (x : IsAt (by_key (own_u ++ there)) u i s) (y : IsAt (by_key (own_u ++ there)) v j r) → y.event.key < x.event.key → (r < s) ⊎ (s ≤ r) → r < s
  before_parent i j s r x y less (inl h) = h
  before_parent i j s r x y less (inr more) =
      let ge = keys_rise (by_key (own_u ++ there)) s r x.event y.event (sorted_rises key_of (own_u ++ there)) x.there y.there more in
      absurd (omega arith)

  -- an event of the parent whose time isn't later than the child's stands first
  pub parent_first : (i j s r : ℕ) (e f : Event) → slice_get hu.events.items i ≡ Some e → slice_get hv.events.items j ≡ Some f → ((t : ℕ) → IsMapAt m f.time t → e.time ≤ t) → IsAt merged u i s → IsAt merged v j r → s < r
  parent_first i j s r e f at_e at_f earlier a b =
      let x = spot u i s (inl refl) a in
      let y = spot v j r (inr refl) b in
      let kx = key_u i (count_by (λ z. q z.event) (take s merged)) e at_e x in
      let ky = earlier y.event.key (key_v j (count_by (λ z. q z.event) (take r merged)) f at_f y) in
      let le : x.event.key ≤ y.event.key = omega (arith, kx, ky) in
      back s r (before_child i j (count_by (λ z. q z.event) (take s merged)) (count_by (λ z. q z.event) (take r merged)) x y le (cases_lt _ _)) (cases_lt s r)

  -- an event of the child that is earlier than the parent's stands first
  pub child_first : (i j s r : ℕ) (e f : Event) → slice_get hu.events.items i ≡ Some e → slice_get hv.events.items j ≡ Some f → ((t : ℕ) → IsMapAt m f.time t → t < e.time) → IsAt merged u i s → IsAt merged v j r → r < s
  child_first i j s r e f at_e at_f earlier a b =
      let x = spot u i s (inl refl) a in
      let y = spot v j r (inr refl) b in
      let kx = key_u i (count_by (λ z. q z.event) (take s merged)) e at_e x in
      let ky = earlier y.event.key (key_v j (count_by (λ z. q z.event) (take r merged)) f at_f y) in
      let less : y.event.key < x.event.key = omega (arith, kx, ky) in
      back r s (before_parent i j (count_by (λ z. q z.event) (take s merged)) (count_by (λ z. q z.event) (take r merged)) x y less (cases_lt _ _)) (cases_lt r s)
