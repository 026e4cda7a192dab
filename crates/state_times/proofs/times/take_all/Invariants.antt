use Rattle.std.proofs.Common.{length}
use Rattle.kernel_provider.specs.Given.{left}
use Rattle.state_times.specs.Rows.{rows_after}
use Rattle.state_times.specs.Times.{added}
use Rattle.std.proofs.Common.{◌++◌}
use Rattle.state_times.proofs.Taken.{AreTaken}
use Rattle.state_times.proofs.times.take_all.Given as goal

abbrev pub invariant-loop-step : goal.invariant-loop-step
invariant-loop-step l = AreTaken l.first (l.fn.attributes.paths ++ added (left l.fn.provider l.events)) (rows_after l.first l.fn.rows.items (left l.fn.provider l.events)) l.attributes.paths l.rows.items (left l.provider l.events)

abbrev pub decreases-loop-step : goal.decreases-loop-step
decreases-loop-step l = length (left l.provider l.events)
