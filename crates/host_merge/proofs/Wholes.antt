-- The merge as a whole.
use Rattle.std.proofs.Common.{◌≡◌, ◌<◌, ◌^◌, ℕ, suc, true, Option, None, Some, List, [], ◌∷◌, length, map, slice_get, refl, ap, ◌∙◌, subst, arith}
use Rattle.std.specs.List.{flat_map, range_with_len}
use Rattle.std.specs.Option.{option_map}
use Rattle.std.proofs.lemmas.List.{length-map}
use Rattle.std.proofs.lemmas.Option.{slice_get-map, slice_get_within}
use Rattle.host_tree.specs.declared.parent.Parent.{Parent}
use Rattle.host_tree.specs.declared.parent.Parent.TheVariants.{Root, Child}
use Rattle.host_tree.proofs.Gets.{within}
use Rattle.stable_sort.proofs.Unique.{InOrder, NoneBelow, sorted_rises}
use Rattle.trace_types.specs.Order.{RiseFrom}
use Rattle.trace_types.specs.declared.event.Event.{Event}
use Rattle.trace_types.specs.declared.event.Merged.{Merged}
use Rattle.trace_types.specs.declared.host.HostEvents.{HostEvents}
use Rattle.host_merge.specs.Lists.{AllAreTimed, AreBroughtUp, AreTimed, own_lists, sorted_at}
use Rattle.host_merge.specs.Merge.{HaveTimes, IsMergeOf, by_key, is_root, roots_of, with_own_time}
use Rattle.host_merge.proofs.Ranges.{flat_same}

timed_events : (events : List Event) → ((k : ℕ) (e : Event) → slice_get events k ≡ Some e → e.time < 2 ^ 62) → AreTimed (map with_own_time events)
timed_events [] h = tt
timed_events (e ∷ es) h = (h 0 e refl, timed_events es (λ k x at. h (suc k) x at))

own_list : (hosts : List HostEvents) (u : ℕ) (host : HostEvents) → slice_get hosts u ≡ Some host → slice_get (own_lists hosts) u ≡ Some (map with_own_time host.events.items)
own_list hosts u host e = slice_get-map (λ (h : HostEvents). map with_own_time h.events.items) hosts u ∙ ap (option_map (λ (h : HostEvents). map with_own_time h.events.items)) e

pub own_timed : (hosts : List HostEvents) → HaveTimes hosts → AllAreTimed (own_lists hosts)
own_timed hosts times k l e =
    let inside : k < length hosts = omega (arith, slice_get_within (own_lists hosts) k l e, length-map hosts (λ (h : HostEvents). map with_own_time h.events.items)) in
    let h = within hosts k inside in
    let at : slice_get (own_lists hosts) k ≡ Some (map with_own_time h.0.events.items) = own_list hosts k h.0 h.1 in
    let same : map with_own_time h.0.events.items ≡ l = cc in
    subst AreTimed same (timed_events h.0.events.items (λ j x f. times.below k j h.0 x h.1 f))

pub root_is : (o : Option Parent) → is_root o ≡ true → o ≡ Some Root
root_is None e = absurd (cc)
root_is (Some Root) e = refl
root_is (Some (Child p m)) e = absurd (cc)

pub merge_is : (parents : List Parent) (hosts : List HostEvents) (new : List (List Merged)) (whole : List Merged) → length parents ≡ length hosts → AreBroughtUp parents (own_lists hosts) new
    → whole ≡ by_key (flat_map (sorted_at new) (roots_of parents)) → IsMergeOf parents hosts whole
merge_is parents hosts new whole same up is = record {
  lists = up.lists;
  brought = up.brought;
  of_host = λ u host e. up.of_host u (map with_own_time host.events.items) (own_list hosts u host e);
  moved = up.moved;
  whole = is ∙ ap by_key (flat_same (sorted_at new) up.lists (λ c. is_root (slice_get parents c)) (range_with_len 0 (length parents)) (λ c t. up.ready c (root_is (slice_get parents c) t)));
}

rise : (k : ℕ) (xs : List Merged) → InOrder (λ m. m.key) xs → NoneBelow (λ m. m.key) k xs → RiseFrom k xs
rise k [] order above = tt
rise k (x ∷ xs) order above = (above.0, rise x.key xs order.1 order.0)

above_zero : (xs : List Merged) → NoneBelow (λ m. m.key) 0 xs
above_zero [] = tt
above_zero (x ∷ xs) = (omega arith, above_zero xs)

-- sorted events are in order of their keys
pub sorted_rise : (xs : List Merged) → RiseFrom 0 (by_key xs)
sorted_rise xs = rise 0 (by_key xs) (sorted_rises (λ m. m.key) xs) (above_zero (by_key xs))
