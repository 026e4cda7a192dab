use Rattle.std.proofs.Common.{sym, ◌∙◌, subst}
use Rattle.host_merge.specs.Lists.{AreTimed, IsJoined}
use Rattle.host_merge.specs.Merge.{by_key}
use Rattle.host_merge.proofs.Joins.{by_own_order, joined_unsorted, timed_sorted}
use Rattle.host_merge.proofs.lists.MergedList.bring.Goals as goal

pub put_at_end-requires : goal.put_at_end-requires
put_at_end-requires c = subst AreTimed (sym (c.as_slice.ensures.value ∙ (c.other.view_is ∙ c.in_ok-sort.ensures))) (timed_sorted c.args.other c.requires)

pub merge-requires-clause-own : goal.merge-requires-clause-own
merge-requires-clause-own c = by_own_order c.as_slice-2.result.now c.args.self.now (c.as_slice-2.ensures.value ∙ (c.self-2.view_is ∙ c.in_ok-sort-2.ensures))

pub merge-requires-clause-others : goal.merge-requires-clause-others
merge-requires-clause-others c = by_own_order c.as_slice-3.result.now c.args.other (c.as_slice-3.ensures.value ∙ (c.other.view_is ∙ c.in_ok-sort.ensures))

pub merge-requires-clause-times : goal.merge-requires-clause-times
merge-requires-clause-times c = subst AreTimed (sym (c.as_slice-3.ensures.value ∙ (c.other.view_is ∙ c.in_ok-sort.ensures))) (timed_sorted c.args.other c.requires)

pub returns : goal.returns
returns c =
    let new = c.merge.new.heads.items in
    rw c.replace.ensures.value (joined_unsorted c.args.map.now (by_key c.args.other) c.args.self.now new
    (subst (λ own. IsJoined c.args.map.now (by_key c.args.other) own new) (c.as_slice-2.ensures.value ∙ (c.self-2.view_is ∙ c.in_ok-sort-2.ensures))
    (subst (λ others. IsJoined c.args.map.now others c.as_slice-2.result.now new) (c.as_slice-3.ensures.value ∙ (c.other.view_is ∙ c.in_ok-sort.ensures)) c.in_ok-merge.ensures)))
