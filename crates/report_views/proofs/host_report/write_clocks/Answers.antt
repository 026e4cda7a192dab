use Rattle.std.proofs.Common.{◌++◌, ap, ◌∙◌}
use Rattle.report_views.specs.Report.{count_from, messages_line, pair_lines, tree_lines}
use Rattle.report_views.proofs.ReportLines.{last_part, two_parts}
use Rattle.report_views.proofs.host_report.write_clocks.Goals as goal

pub returns : goal.returns
returns c =
    let old = c.args.out.now.items in
    let matched = c.args.messages.now.matched.items in
    let head = messages_line matched c.args.messages.now.ambiguous in
    let pairs = pair_lines c.args.hosts (count_from matched) c.args.fits.now in
    let trees = tree_lines c.args.forest.now in
    let given = c.in_ok-write_pairs.ensures ∙ ap (λ ms. c.write_messages_line.new.out.items ++ pair_lines c.args.hosts (count_from ms) c.args.fits.now) c.deref.ensures.value in
    last_part c.write_trees.result old c.write_pairs.new.out.items c.write_trees.new.out.items (head ++ pairs) trees (two_parts old c.write_messages_line.new.out.items c.write_pairs.new.out.items head pairs c.in_ok-write_messages_line.ensures given) c.write_trees.ensures
