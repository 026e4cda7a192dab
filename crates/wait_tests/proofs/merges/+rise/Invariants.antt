use Rattle.std.proofs.Common.{length}
use Rattle.wait_tests.proofs.merges.+rise.Given as goal

abbrev pub decreases-rise : goal.decreases-rise
decreases-rise l = length l.merged.now
