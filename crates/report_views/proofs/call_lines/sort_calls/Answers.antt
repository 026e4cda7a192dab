use Rattle.std.proofs.Common.{rules, le_of_lt}
use Rattle.std.specs.Ordering.{is_lt}
use Rattle.std.proofs.lemmas.List.Sorted.{ranks_by, answers_always, sorted_far}
use Rattle.report_views.specs.declared.call_lines.Call.{Call}
use Rattle.report_views.specs.CallLines.{compare_calls}
use Rattle.report_views.proofs.CallLines.{calls_total}
use Rattle.report_views.proofs.call_lines.sort_calls.Goals as goal

pub returns-clause-order : goal.returns-clause-order
returns-clause-order c i j d below long =
    sorted_far (λ x y. is_lt (compare_calls x y)) (ranks_by calls_total (λ (a : Call). a)) _
    (c.sort_unstable_by.ensures.sorted (λ x y. is_lt (compare_calls x y)) (ranks_by calls_total (λ (a : Call). a)) (answers_always _ _ _ (λ f a r f' k. search rules))) i j d (le_of_lt below) long
