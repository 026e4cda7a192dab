use Rattle.std.proofs.Common.{◌≡◌, take}
use Rattle.std.specs.Prelude.{filter}
use Rattle.report_views.specs.TimeLines.{has_line}
use Rattle.report_views.proofs.time_lines.with_lines.Given as goal

abbrev pub invariant-loop-number : goal.invariant-loop-number
invariant-loop-number l = l.paths.items ≡ filter has_line (take l.number l.times.paths)
