use Rattle.std.proofs.Common.{◌≡◌, ◌++◌}
use Rattle.std.specs.Prelude.{flat_map}
use Rattle.std.specs.List.{range_with_len}
use Rattle.report_views.specs.Report.{count_at, pair_lines_of}
use Rattle.report_views.proofs.clock_lines.write_pairs.Given as goal

abbrev pub invariant-loop-first : goal.invariant-loop-first
invariant-loop-first l = l.out.items ≡ l.fn.out.items ++ flat_map (pair_lines_of l.hosts (count_at l.hosts l.counts.items) l.fits) (range_with_len 0 l.first)
