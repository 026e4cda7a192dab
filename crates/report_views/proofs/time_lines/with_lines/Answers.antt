use Rattle.std.proofs.Common.{◌∷◌, ◌++◌, [], if◌then◌else◌, sym, ap, ◌∙◌}
use Rattle.report_views.specs.TimeLines.{has_line}
use Rattle.report_views.proofs.TimeLines.{path_more}
use Rattle.report_views.proofs.time_lines.with_lines.Goals as goal

pub loop-number-preserved : goal.loop-number-preserved
loop-number-preserved c =
    let p = c.path_of.result in
    c.in_ok-keep.ensures ∙ (ap (λ l. l ++ (if has_line p then p ∷ [] else [])) c.loop-number.invariant ∙ sym (path_more c.args.times.now.paths c.loop-number.number p c.path_of.ensures))
