use Rattle.std.proofs.Common.{length}
use Rattle.kernel_provider.specs.Given.{left}
use Rattle.history_tests.proofs.listed.Listed.of.Given as goal

abbrev pub decreases-loop-listed : goal.decreases-loop-listed
decreases-loop-listed l = length (left l.provider l.events)
