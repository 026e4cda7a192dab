use Rattle.std.proofs.Common.{◌∙◌, flat_map, ap}
use Rattle.std.proofs.lemmas.Result.{IfOk-weaker}
use Rattle.event_list.specs.Names.{names_at}
use Rattle.report_views.specs.StretchesText.{stretch_text}
use Rattle.report_views.proofs.StretchLines.{range_lines}
use Rattle.report_views.proofs.stretch_lines.lines_over.Goals as goal

pub returns : goal.returns
returns c =
    let names = names_at c.args.names.now in
    let answer = c.in_ok-answer.ensures in
    IfOk-weaker c.lines_of.result _ _ (λ text is merge m stands. range_lines names merge c.args.history.now c.args.from c.args.to c.args.path c.in_ok-answer.answer.stretches.items text.items m stands c.requires.order c.requires.time answer.stretches (answer.values _ stands) (is ∙ ap (flat_map (stretch_text names c.args.path)) c.deref.ensures.value)) c.lines_of.ensures
