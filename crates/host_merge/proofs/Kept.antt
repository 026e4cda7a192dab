-- A merge keeps the order of each host's events.
use Rattle.std.proofs.Common.{◌≡◌, ◌<◌, ◌≤◌, ◌==◌, ℕ, zero, suc, Bool, true, false, not, cond, All, Some, List, [], ◌∷◌, length, get_or, map, filter, slice_get, nat_lt, refl, sym, ap, ◌∙◌, subst, arith, lt-ltb}
use Rattle.std.proofs.lemmas.Bool.{eq-eqb, eqb-true, ltb-true}
use Rattle.std.proofs.lemmas.Option.{slice_get_within}
use Rattle.clock_fraction.specs.declared.pair_map.PairMap.{PairMap}
use Rattle.host_tree.specs.declared.parent.Parent.{Parent}
use Rattle.host_tree.specs.declared.parent.Parent.TheVariants.{Child}
use Rattle.host_tree.specs.Rooted.{LeadToRoots}
use Rattle.stable_sort.proofs.Unique.{InOrder, NoneBelow}
use Rattle.trace_types.specs.Order.{RiseFrom}
use Rattle.trace_types.specs.declared.event.Event.{Event}
use Rattle.trace_types.specs.declared.event.Merged.{Merged}
use Rattle.trace_types.specs.declared.host.HostEvents.{HostEvents}
use Rattle.host_merge.specs.Kept.{AreInTime, AreOwn, HasListed, KeepsOrder}
use Rattle.host_merge.specs.Merge.{IsMergeOf, by_key, with_own_time}
use Rattle.host_merge.specs.Placed.{is_of}
use Rattle.host_merge.proofs.Brought.{event_of, key_of}
use Rattle.host_merge.proofs.Filters.{sorted_same}
use Rattle.host_merge.proofs.Parts.{no_part, part_alone, part_of_merge}
use Rattle.host_merge.proofs.Up.{OnWay, no_deeper}
use Rattle.host_merge.proofs.Ways.{above}

rises_above : (k : ℕ) (xs : List Merged) → RiseFrom k xs → NoneBelow key_of k xs
rises_above k [] r = tt
rises_above k (x ∷ xs) r = (r.0, weaken x.key xs r.0 (rises_above x.key xs r.1))
  where
    weaken : (n : ℕ) (ys : List Merged) → k ≤ n → NoneBelow key_of n ys → NoneBelow key_of k ys
    weaken n [] h a = tt
    weaken n (y ∷ ys) h a = (omega (arith, a.0), weaken n ys h a.1)

pub rises_in_order : (k : ℕ) (xs : List Merged) → RiseFrom k xs → InOrder key_of xs
rises_in_order k [] r = tt
rises_in_order k (x ∷ xs) r = (rises_above x.key xs r.1, rises_in_order x.key xs r.1)

pub all_pass : (q : Event → Bool) (events : List Event) → ((k : ℕ) (e : Event) → slice_get events k ≡ Some e → q e ≡ true) → filter (λ m. q m.event) (map with_own_time events) ≡ map with_own_time events
all_pass q [] all = refl
all_pass q (e ∷ es) all = ap (λ b. cond b (with_own_time e ∷ filter (λ m. q m.event) (map with_own_time es)) (filter (λ m. q m.event) (map with_own_time es))) (all 0 e refl) ∙ ap (λ l. with_own_time e ∷ l) (all_pass q es (λ k x at. all (suc k) x at))

own_events : (events : List Event) → map event_of (map with_own_time events) ≡ events
own_events [] = refl
own_events (e ∷ es) = ap (λ l. e ∷ l) (own_events es)

none_pass : (p : Merged → Bool) (xs : List Merged) → filter p xs ≡ [] → (k : ℕ) (d : Merged) → k < length xs → p (get_or xs k d) ≡ false
none_pass p [] e k d h = absurd (omega arith)
none_pass p (x ∷ xs) e k d h = by (p x) refl e k h (none_pass p xs)
  where
    by : (b : Bool) → p x ≡ b → cond b (x ∷ filter p xs) (filter p xs) ≡ [] → (k : ℕ) → k < suc (length xs) → (filter p xs ≡ [] → (j : ℕ) (d : Merged) → j < length xs → p (get_or xs j d) ≡ false) → p (get_or (x ∷ xs) k d) ≡ false
    by true t f k h rest = absurd (cc f)
    by false t f zero h rest = t
    by false t f (suc k) h rest = rest f k d (omega arith)

module _ (parents : List Parent) (hosts : List HostEvents) (merged : List Merged) (same : length parents ≡ length hosts) (rooted : LeadToRoots parents) (own : AreOwn hosts) (in_time : AreInTime hosts) (merge : IsMergeOf parents hosts merged) where
  kept : (u : ℕ) (host : HostEvents) → slice_get hosts u ≡ Some host → map event_of (filter (is_of u) merged) ≡ host.events.items
  kept u host e =
      let u_in : u < length parents = omega (arith, slice_get_within hosts u host e) in
      let mine : (c k : ℕ) (x : Event) → HasListed hosts c k x → (x.host == u) ≡ true → c ≡ u = λ c k x listed t. sym (own c k x listed) ∙ eqb-true x.host u t in
      let quiet : (c : ℕ) (n : PairMap) → slice_get parents c ≡ Some (Child u n) → (h : ℕ) → h ≡ u → ¬ OnWay parents h c = λ c n f h is w.
      let cd = rooted c (slice_get_within parents c (Child u n) f) in
      let up = above parents cd.0 c u n f cd.1 in
      let low = no_deeper parents u c up.0 cd.0 (subst (λ x. OnWay parents x c) is w) up.2 cd.1 in
      omega (arith, up.1, low) in
      let alone = part_alone parents hosts merged same rooted merge (λ x. x.host == u) (λ c. c ≡ u) mine u host e quiet in
      let all = all_pass (λ x. x.host == u) host.events.items (λ k x at. eq-eqb x.host u (own u k x (record { host = host; of_host = e; at = at }))) in
      part_of_merge parents hosts merged same rooted merge (λ x. x.host == u) (λ c. c ≡ u) mine u u_in (λ h is. (0, is))
      ∙ (ap (map event_of) (alone ∙ (ap by_key all ∙ sorted_same key_of (map with_own_time host.events.items) (rises_in_order 0 (map with_own_time host.events.items) (in_time u host e))))
      ∙ own_events host.events.items)

  known : All (λ m. m.event.host < length hosts) merged
  known k d h = by (nat_lt (get_or merged k d).event.host (length hosts)) refl
      (none_pass (λ m. not (nat_lt m.event.host (length hosts))) merged
      (no_part parents hosts merged same rooted merge (λ x. not (nat_lt x.host (length hosts))) (λ c. ⊥)
      (λ c j x listed t.
      let inside : x.host < length hosts = omega (arith, own c j x listed, slice_get_within hosts c listed.host listed.of_host) in
      let no : not (nat_lt x.host (length hosts)) ≡ false = ap not (lt-ltb x.host (length hosts) inside) in
      absurd (cc))
      (λ u m. m)) k d h)
    where
      by : (b : Bool) → nat_lt (get_or merged k d).event.host (length hosts) ≡ b → not (nat_lt (get_or merged k d).event.host (length hosts)) ≡ false → (get_or merged k d).event.host < length hosts
      by true e n = ltb-true (get_or merged k d).event.host (length hosts) e
      by false e n = let f = ap not e in absurd (cc)

  pub keeps_order : KeepsOrder hosts merged
  keeps_order = record { kept = kept; known = known }
