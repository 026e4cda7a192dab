use Rattle.std.proofs.Common.{◌≡◌, ◌++◌, List}
use Rattle.kernel_provider.specs.declared.step.Step.{Step}
use Rattle.kernel_provider.specs.Given.{left}
use Rattle.kernel_provider.specs.Steps.{steps_of}
use Rattle.history_core.specs.Stands.{Stands}
use Rattle.hosttrace_tests.proofs.history_runs.built.Given as goal

abbrev pub invariant-loop : goal.invariant-loop
invariant-loop g l = (given : List Step) × Stands given l.history × (steps_of l.events ≡ given ++ left l.provider l.events)
