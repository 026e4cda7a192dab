use Rattle.std.proofs.Common.{length}
use Rattle.kernel_provider.specs.Given.{left}
use Rattle.history_tests.proofs.replay.Replay.of.Given as goal

abbrev pub decreases-loop-replay : goal.decreases-loop-replay
decreases-loop-replay l = length (left l.provider l.events)
