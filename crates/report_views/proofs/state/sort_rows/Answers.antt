use Rattle.std.proofs.Common.{rules, le_of_lt}
use Rattle.std.specs.Ordering.{nat_cmp, is_lt}
use Rattle.std.specs.Cmp.Lexicographic.{slice_cmp, nat_list_cmp_total}
use Rattle.std.proofs.lemmas.List.Sorted.{ranks_by, answers_always, sorted_far}
use Rattle.trace_types.specs.Paths.{rank_of}
use Rattle.report_views.specs.declared.rows.Row.{Row}
use Rattle.report_views.proofs.state.sort_rows.Goals as goal

pub returns-clause-order : goal.returns-clause-order
returns-clause-order c i j d below long =
    sorted_far (λ x y. is_lt (slice_cmp nat_cmp (rank_of x.path) (rank_of y.path))) (ranks_by nat_list_cmp_total (λ (r : Row). rank_of r.path)) _
    (c.sort_unstable_by_key.ensures.sorted (λ (r : Row). rank_of r.path) (answers_always _ _ _ (λ f a r f' k. search rules))) i j d (le_of_lt below) long
