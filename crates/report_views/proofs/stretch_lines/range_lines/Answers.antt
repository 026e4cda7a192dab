use Rattle.std.proofs.Common.{subst}
use Rattle.std.proofs.lemmas.Result.{IfOk-weaker}
use Rattle.event_list.specs.Names.{names_at}
use Rattle.kernel_provider.specs.Replay.{state_at}
use Rattle.kernel_provider.specs.Steps.{steps_of}
use Rattle.history_core.specs.Stands.{Stands}
use Rattle.report_views.specs.StretchesText.{IsRangeText}
use Rattle.report_views.proofs.stretch_lines.range_lines.Goals as goal

pub returns : goal.returns
returns c =
    let events = c.args.trace.now.events.items in
    let stands : Stands (steps_of events) c.in_ok-history.history = subst (λ es. Stands (steps_of es) c.in_ok-history.history) c.deref.ensures.value c.in_ok-history.ensures in
    IfOk-weaker c.lines_over.result _ _ (λ text h. subst (λ ns. IsRangeText (names_at ns) (state_at events) c.args.from c.args.to c.args.path text.items) c.deref-2.ensures.value (h events c.requires.merge stands)) c.lines_over.ensures
