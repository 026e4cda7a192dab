use Rattle.std.proofs.Common.{◌≡◌, ◌++◌, ◌+◌, ◌-◌}
use Rattle.std.specs.Prelude.{flat_map}
use Rattle.std.specs.List.{range_with_len}
use Rattle.report_views.specs.Report.{count_at, pair_line}
use Rattle.report_views.proofs.clock_lines.write_pairs_of.Given as goal

abbrev pub invariant-loop-second : goal.invariant-loop-second
invariant-loop-second l = l.out.items ≡ l.fn.out.items ++ flat_map (pair_line l.hosts (count_at l.hosts l.counts) l.fits l.first) (range_with_len (l.first + 1) (l.second - (l.first + 1)))
