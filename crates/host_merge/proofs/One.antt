-- There is one merge, and that of one host is its own list.
use Rattle.std.proofs.Common.{◌≡◌, ◌≤◌, ◌+◌, ℕ, zero, suc, List, [], ◌∷◌, ◌++◌, length, map, slice_get, refl, sym, ap, ◌∙◌, arith}
use Rattle.std.specs.List.{range_with_len}
use Rattle.std.proofs.lemmas.List.{append-nil}
use Rattle.std.proofs.lemmas.Option.{slice_get_within}
use Rattle.host_tree.specs.declared.parent.Parent.{Parent}
use Rattle.host_tree.specs.declared.parent.Parent.TheVariants.{Root, Child}
use Rattle.host_tree.specs.Rooted.{IsAtDepth, LeadToRoots}
use Rattle.host_tree.proofs.Gets.{within}
use Rattle.trace_types.specs.declared.event.Merged.{Merged}
use Rattle.trace_types.specs.declared.host.HostEvents.{HostEvents}
use Rattle.host_merge.specs.Kept.{AreInTime}
use Rattle.host_merge.specs.Merge.{IsMergeOf, by_key, is_parent, is_root, with_own_time}
use Rattle.host_merge.proofs.Brought.{key_of}
use Rattle.host_merge.proofs.Filters.{sorted_same}
use Rattle.host_merge.proofs.Kept.{rises_in_order}
use Rattle.host_merge.proofs.Levels.{is_parent_of}
use Rattle.host_merge.proofs.Ranges.{flat_same}
use Rattle.host_merge.proofs.Times.{brought_is, brought_to}
use Rattle.host_merge.proofs.Ways.{above, depth_below, depth_within, one_depth}
use Rattle.host_merge.proofs.Wholes.{root_is}

module _ (parents : List Parent) (hosts : List HostEvents) (merged others : List Merged) (same : length parents ≡ length hosts) (rooted : LeadToRoots parents) (a : IsMergeOf parents hosts merged) (b : IsMergeOf parents hosts others) where
  same_list : (k c d : ℕ) → IsAtDepth parents d c → length parents ≤ d + k → a.lists c ≡ b.lists c
  same_list zero c d at long = absurd (omega (arith, depth_below parents rooted d c at))
  same_list (suc k) c d at long =
      let h = within hosts c (omega (arith, depth_within parents d c at)) in
      a.of_host c h.0 h.1 ∙ (ap (λ l. by_key (map with_own_time h.0.events.items ++ l)) (flat_same a.brought b.brought (λ x. is_parent c (slice_get parents x)) (range_with_len 0 (length parents)) (λ x t.
      let p = is_parent_of c (slice_get parents x) t in
      let xd = rooted x (slice_get_within parents x (Child c p.0) p.1) in
      let up = above parents xd.0 x c p.0 p.1 xd.1 in
      let same_depth = one_depth parents up.0 d c up.2 at in
      brought_is p.0 (a.lists x) (a.brought x) (a.moved x c p.0 p.1) ∙ (ap (map (brought_to p.0)) (same_list k x xd.0 xd.1 (omega (arith, up.1, same_depth))) ∙ sym (brought_is p.0 (b.lists x) (b.brought x) (b.moved x c p.0 p.1)))))
      ∙ sym (b.of_host c h.0 h.1))

  pub one_merge : merged ≡ others
  one_merge =
      a.whole ∙ (ap by_key (flat_same a.lists b.lists (λ x. is_root (slice_get parents x)) (range_with_len 0 (length parents)) (λ x t.
      let e = root_is (slice_get parents x) t in
      same_list (length parents) x 0 e (omega arith)))
      ∙ sym b.whole)

pub one_host : (host : HostEvents) (merged : List Merged) → AreInTime (host ∷ []) → IsMergeOf (Root ∷ []) (host ∷ []) merged → merged ≡ map with_own_time host.events.items
one_host host merged in_time merge =
    let own : List Merged = map with_own_time host.events.items in
    let alone : merge.lists 0 ≡ own =
    merge.of_host 0 host refl ∙ (ap by_key (append-nil own) ∙ sorted_same key_of own (rises_in_order 0 own (in_time 0 host refl))) in
    merge.whole ∙ (ap by_key (append-nil (merge.lists 0) ∙ alone) ∙ sorted_same key_of own (rises_in_order 0 own (in_time 0 host refl)))
