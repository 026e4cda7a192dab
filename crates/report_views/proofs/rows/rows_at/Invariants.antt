use Rattle.std.proofs.Common.{◌≡◌, [], length}
use Rattle.kernel_provider.specs.Given.{left}
use Rattle.kernel_provider.specs.Steps.{steps_of}
use Rattle.report_views.specs.Rows.{rows_after}
use Rattle.report_views.proofs.rows.rows_at.Given as goal

abbrev pub invariant-loop-rows : goal.invariant-loop-rows
invariant-loop-rows l = rows_after l.at [] (steps_of l.events) ≡ rows_after l.at l.rows.items (left l.provider l.events)

abbrev pub decreases-loop-rows : goal.decreases-loop-rows
decreases-loop-rows l = length (left l.provider l.events)
