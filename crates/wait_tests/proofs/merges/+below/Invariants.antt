use Rattle.std.proofs.Common.{length}
use Rattle.wait_tests.proofs.merges.+below.Given as goal

abbrev pub decreases-below : goal.decreases-below
decreases-below l = length l.merged.now
