use Rattle.std.proofs.Common.{◌≤◌, ◌+◌, ◌-◌, arith}
use Rattle.report_views.specs.Report.{count_at, pair_line}
use Rattle.report_views.proofs.ReportLines.{next_line}
use Rattle.report_views.proofs.clock_lines.write_pairs_of.Goals as goal

pub loop-second-preserved : goal.loop-second-preserved
loop-second-preserved c =
    let least : c.args.first + 1 ≤ c.loop-second.second = c.loop-second.auto.second in
    next_line (pair_line c.args.hosts (count_at c.args.hosts c.args.counts.now) c.args.fits.now c.args.first) c.args.out.now.items c.loop-second.out.items _ (c.args.first + 1) (c.loop-second.second - (c.args.first + 1)) c.loop-second.second _ c.loop-second.invariant c.in_ok-write_pair.ensures (omega (arith, least)) (omega (arith, least))
