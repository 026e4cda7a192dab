use Rattle.std.proofs.Common.{length}
use Rattle.history_tests.proofs.grown.way.Given as goal

abbrev pub decreases-loop-number : goal.decreases-loop-number
decreases-loop-number l = length l.visit
