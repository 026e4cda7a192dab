use Rattle.std.proofs.Common.{◌≡◌}
use Rattle.kernel_provider.specs.Given.{given_of, left, work}
use Rattle.kernel_provider.proofs.provider.next_of.Given as goal

abbrev pub invariant-loop-queue : goal.invariant-loop-queue
invariant-loop-queue l = (left (given_of l.fn.table.table l.fn.queue) l.events ≡ left (given_of l.table.table l.queue) l.events) × (l.table ≡ l.fn.table)

abbrev pub decreases-loop-queue : goal.decreases-loop-queue
decreases-loop-queue l = work l.queue l.events
