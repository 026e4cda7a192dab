use Rattle.std.proofs.Common.{◌≡◌, ◌++◌}
use Rattle.std.specs.Prelude.{flat_map, slice_get}
use Rattle.std.specs.List.{range_with_len}
use Rattle.report_views.specs.Report.{tree_line}
use Rattle.report_views.proofs.clock_lines.write_trees.Given as goal

abbrev pub invariant-loop-host : goal.invariant-loop-host
invariant-loop-host l = l.out.items ≡ l.fn.out.items ++ flat_map (λ host. tree_line host (slice_get l.forest host)) (range_with_len 0 l.host)
