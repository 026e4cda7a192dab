use Rattle.std.proofs.Common.{subst, ◌≡◌, ◌++◌, Some, length, slice_get, refl, sym, ap, ◌∙◌, arith}
use Rattle.std.specs.List.{flat_map}
use Rattle.std.proofs.lemmas.List.{length-set}
use Rattle.std.proofs.lemmas.Option.{slice_get_read}
use Rattle.host_tree.specs.declared.parent.Parent.TheVariants.{Root, Child}
use Rattle.host_tree.proofs.Gets.{beside_set}
use Rattle.host_merge.specs.Lists.{AreTimed, sorted_at}
use Rattle.host_merge.specs.Merge.{by_key, is_root}
use Rattle.host_merge.proofs.Joins.{one_root_more, timed_append, timed_sorted}
use Rattle.host_merge.proofs.Ranges.{below_no}
use Rattle.host_merge.proofs.merging.join_roots.Goals as goal

pub loop-host-preserved : goal.loop-host-preserved
loop-host-preserved c =
    let i = c.loop-host.invariant in
    let parents = c.args.forest.now.items in
    let old = c.args.lists.now.items in
    let lists = c.loop-host.lists.items in
    let host = c.loop-host.host in
    let root : slice_get parents host ≡ Some Root = slice_get_read parents (length parents) host c.index.result.now refl (omega arith) c.index.ensures ∙ ap Some c.in-Root.is in
    let at : slice_get old host ≡ Some c.replace-list.result =
    sym (i.1 host (omega arith)) ∙ (slice_get_read lists (length lists) host c.index_mut.result.now refl (omega arith) c.index_mut.ensures.value ∙ ap Some (sym c.replace-list.ensures.value)) in (
      length-set lists host c.replace-list.new.dest ∙ i.0,
      λ k h. beside_set lists host k c.replace-list.new.dest (λ s. omega (arith, s)) ∙ i.1 k (omega arith),
      c.in_ok-append.ensures ∙ (ap (λ l. c.loop-host.whole ++ l) c.in_ok-sort.ensures ∙ one_root_more parents old host c.loop-host.whole c.replace-list.result root at i.2),
      subst AreTimed (sym (c.in_ok-append.ensures ∙ ap (λ l. c.loop-host.whole ++ l) c.in_ok-sort.ensures)) (timed_append c.loop-host.whole (by_key c.replace-list.result) i.3 (timed_sorted c.replace-list.result (c.requires.times host c.replace-list.result at))),
    )

pub loop-host-preserved-in_default : goal.loop-host-preserved-in_default
loop-host-preserved-in_default c =
    let i = c.loop-host.invariant in
    let parents = c.args.forest.now.items in
    let host = c.loop-host.host in
    let child : slice_get parents host ≡ Some (Child c.in_default.field-0 c.in_default.field-1) = slice_get_read parents (length parents) host c.index.result.now refl (omega arith) c.index.ensures ∙ ap Some c.in_default.is in
    (i.0, λ k h. i.1 k (omega arith), i.2 ∙ ap (flat_map (sorted_at c.args.lists.now.items)) (sym (below_no (λ k. is_root (slice_get parents k)) host (ap is_root child))), i.3)
