use Rattle.std.proofs.Common.{rules, le_of_lt}
use Rattle.std.specs.Ordering.{nat_cmp, is_lt}
use Rattle.std.specs.Cmp.Lexicographic.{slice_cmp, nat_list_cmp_total}
use Rattle.std.proofs.lemmas.List.Sorted.{ranks_by, answers_always, sorted_far}
use Rattle.trace_types.specs.Paths.{rank_of}
use Rattle.trace_types.specs.declared.path.Path.{Path as AttributePath}
use Rattle.report_views.proofs.time_lines.sort_paths.Goals as goal

pub returns-clause-order : goal.returns-clause-order
returns-clause-order c i j d below long =
    sorted_far (λ x y. is_lt (slice_cmp nat_cmp (rank_of x) (rank_of y))) (ranks_by nat_list_cmp_total (λ (p : AttributePath). rank_of p)) _
    (c.sort_unstable_by_key.ensures.sorted (λ (p : AttributePath). rank_of p) (answers_always _ _ _ (λ f a r f' k. search rules))) i j d (le_of_lt below) long
