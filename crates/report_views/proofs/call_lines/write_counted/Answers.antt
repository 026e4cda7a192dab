use Rattle.std.proofs.Common.{◌≡◌, ap, ◌∙◌, get_or, length, subst, rules, arith}
use Rattle.std.specs.Prelude.{flat_map, IsPermutation}
use Rattle.std.proofs.lemmas.Grind.{common_steps}
use Rattle.std.proofs.lemmas.List.Sorted.{length_permutation}
use Rattle.report_views.specs.CallLines.{call_line, calls_below, compare_calls}
use Rattle.report_views.proofs.CallLines.{calls_tie, calls_total}
use Rattle.report_views.proofs.Ordered.{is_ordered}
use Rattle.report_views.proofs.ReportLines.{same_text}
use Rattle.report_views.proofs.call_lines.write_counted.Goals as goal

pub returns : goal.returns
returns c =
    let sorted = c.sort_calls.new.calls in
    let made = calls_below c.args.names.now (λ n. get_or c.args.counts.now n 0) (length c.args.names.now) in
    let given : c.deref_mut.result.now ≡ made = search rules in
    let long : length sorted ≡ length c.deref_mut.result.now = length_permutation _ _ c.sort_calls.ensures.permutation in
    let whole : c.deref.result.now ≡ sorted = grind (arith, common_steps) in
    let perm : IsPermutation made sorted = subst (λ l. IsPermutation l sorted) given c.sort_calls.ensures.permutation in
    same_text c.write_lines.result c.args.out.now.items c.write_lines.new.out.items _ _
    (ap (flat_map (call_line c.args.host (λ n. get_or c.args.counts.now n 0))) (whole ∙ is_ordered compare_calls calls_total calls_tie made sorted perm c.sort_calls.ensures.order)) c.write_lines.ensures
