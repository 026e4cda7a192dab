use Rattle.std.proofs.Common.{◌++◌, length, refl, sym, ap, ◌∙◌, arith}
use Rattle.std.specs.Prelude.{slice_get}
use Rattle.std.proofs.lemmas.Option.{slice_get_read}
use Rattle.report_views.specs.Report.{tree_line}
use Rattle.report_views.proofs.ReportLines.{next_line}
use Rattle.report_views.proofs.clock_lines.write_trees.Goals as goal

pub loop-host-preserved : goal.loop-host-preserved
loop-host-preserved c =
    let forest = c.args.forest.now in
    let host = c.loop-host.host in
    let there = slice_get_read forest (length forest) host c.index-forest-host.result refl c.loop-host-test.true c.index-forest-host.is in
    next_line (λ h. tree_line h (slice_get forest h)) c.args.out.now.items c.loop-host.out.items _ 0 host host _ c.loop-host.invariant (c.in_ok-write_tree.ensures ∙ ap (λ p. c.loop-host.out.items ++ tree_line host p) (sym there)) (omega arith) refl
