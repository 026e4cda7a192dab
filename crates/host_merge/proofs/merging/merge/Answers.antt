use Rattle.std.proofs.Common.{◌≡◌, List, sym, ap, ◌∙◌, subst}
use Rattle.std.proofs.lemmas.Result.{IfOk-weaker}
use Rattle.trace_types.specs.Order.{RiseFrom}
use Rattle.trace_types.specs.declared.event.Merged.{Merged}
use Rattle.host_merge.specs.Lists.{AllAreTimed, AreBroughtUp, AreTimed}
use Rattle.host_merge.proofs.Joins.{timed_sorted}
use Rattle.host_merge.specs.Merge.{IsMergeOf, by_key}
use Rattle.host_merge.proofs.Kept.{keeps_order}
use Rattle.host_merge.proofs.Wholes.{merge_is, own_timed, sorted_rise}
use Rattle.host_merge.proofs.merging.merge.Goals as goal

pub bring_all_up-requires-clause-times : goal.bring_all_up-requires-clause-times
bring_all_up-requires-clause-times c = subst AllAreTimed (sym c.in_ok-lists.ensures) (own_timed c.args.hosts.now c.requires.times)

pub returns : goal.returns
returns c =
    let parents = c.args.forest.now.items in
    let hosts = c.args.hosts.now in
    let whole = c.in_ok-whole.whole in
    let exact : (merged : List Merged) → merged ≡ by_key whole → IsMergeOf parents hosts merged =
    λ merged sorted. merge_is parents hosts c.bring_all_up.new.lists.items merged c.requires.counted
    (subst (λ old. AreBroughtUp parents old c.bring_all_up.new.lists.items) c.in_ok-lists.ensures c.in_ok-bring_all_up.ensures.up)
    (sorted ∙ ap by_key c.in_ok-whole.ensures.whole) in
    record {
      exact = IfOk-weaker c.gather.result _ _ (λ m e. exact m.items (e ∙ c.in_ok-sort.ensures)) c.gather.ensures;
      order = IfOk-weaker c.gather.result _ _ (λ m e. subst (RiseFrom 0) (sym (e ∙ c.in_ok-sort.ensures)) (sorted_rise whole)) c.gather.ensures;
      times = IfOk-weaker c.gather.result _ _ (λ m e. subst AreTimed (sym (e ∙ c.in_ok-sort.ensures)) (timed_sorted whole c.in_ok-whole.ensures.times)) c.gather.ensures;
      kept = λ own in_time. IfOk-weaker c.gather.result _ _ (λ m e. keeps_order parents hosts m.items c.requires.counted c.requires.rooted own in_time (exact m.items (e ∙ c.in_ok-sort.ensures))) c.gather.ensures;
    }
