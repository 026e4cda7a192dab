use Rattle.std.proofs.Common.{◌≡◌, [], ap₂, ◌∙◌, subst, rules, arith, length}
use Rattle.std.specs.Prelude.{filter, flat_map, IsPermutation}
use Rattle.std.proofs.lemmas.Result.{IfOk-weaker}
use Rattle.std.proofs.lemmas.Grind.{common_steps}
use Rattle.std.proofs.lemmas.List.Sorted.{length_permutation}
use Rattle.kernel_provider.specs.Steps.{steps_of}
use Rattle.report_views.specs.Rows.{rows_after}
use Rattle.event_list.specs.Names.{names_at}
use Rattle.report_views.specs.StateText.{has_value, row_text}
use Rattle.report_views.proofs.Listed.{listing}
use Rattle.report_views.proofs.state.state_lines.Goals as goal

pub returns : goal.returns
returns c =
    let sorted = c.sort_rows.new.rows in
    let given : c.deref_mut.result.now ≡ rows_after c.args.at [] (steps_of c.args.trace.now.events.items) = search rules in
    let perm : IsPermutation (rows_after c.args.at [] (steps_of c.args.trace.now.events.items)) sorted = subst (λ l. IsPermutation l sorted) given c.sort_rows.ensures.permutation in
    let long : length sorted ≡ length c.deref_mut.result.now = length_permutation _ _ c.sort_rows.ensures.permutation in
    let whole : c.deref-3.result.now ≡ sorted = grind (arith, common_steps) in
    IfOk-weaker c.rows_text.result _ _ (λ text is. (filter has_value sorted, listing c.args.trace.now.events.items c.args.at sorted c.requires perm c.sort_rows.ensures.order, is ∙ ap₂ (λ ns l. flat_map (row_text (names_at ns)) (filter has_value l)) c.deref-2.ensures.value whole)) c.rows_text.ensures
