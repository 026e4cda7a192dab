use Rattle.std.proofs.Common.{◌≡◌, ◌++◌, List, length}
use Rattle.kernel_provider.specs.declared.step.Step.{Step}
use Rattle.kernel_provider.specs.Given.{left}
use Rattle.kernel_provider.specs.Steps.{steps_of}
use Rattle.history_core.specs.Stands.{Stands}
use Rattle.history_core.proofs.whole.history_of.Given as goal

abbrev pub invariant-loop-history : goal.invariant-loop-history
invariant-loop-history l = (given : List Step) × Stands given l.history × (steps_of l.events ≡ given ++ left l.provider l.events)

abbrev pub decreases-loop-history : goal.decreases-loop-history
decreases-loop-history l = length (left l.provider l.events)
