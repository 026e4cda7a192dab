use Rattle.std.proofs.Common.{length}
use Rattle.report_tests.proofs.answers.+rise.Given as goal

abbrev pub decreases-rise : goal.decreases-rise
decreases-rise l = length l.merged.now
