use Rattle.std.proofs.Common.{◌≡◌, ◌++◌, ◌∙◌, subst, rules, arith, length, take, drop}
use Rattle.std.specs.Prelude.{filter, IsPermutation}
use Rattle.std.proofs.lemmas.Grind.{common_steps}
use Rattle.std.proofs.lemmas.List.Sorted.{length_permutation}
use Rattle.report_views.specs.TimeLines.{compare_paths, has_line}
use Rattle.report_views.proofs.Ordered.{is_ordered}
use Rattle.report_views.proofs.TimeLines.{paths_tie, paths_total}
use Rattle.report_views.proofs.time_lines.lined.Goals as goal

pub returns : goal.returns
returns c =
    let sorted = c.sort_paths.new.paths in
    let kept = filter has_line c.args.times.now.paths in
    let given : c.deref_mut.result.now ≡ kept = search rules in
    let long : length sorted ≡ length c.deref_mut.result.now = length_permutation _ _ c.sort_paths.ensures.permutation in
    let whole : take c.in_ok-paths.paths.len (sorted ++ drop (length sorted) c.in_ok-paths.paths.items) ≡ sorted = grind (arith, common_steps) in
    let perm : IsPermutation kept sorted = subst (λ l. IsPermutation l sorted) given c.sort_paths.ensures.permutation in
    whole ∙ is_ordered compare_paths paths_total paths_tie kept sorted perm c.sort_paths.ensures.order
