use Rattle.kernel_provider.specs.Steps.{steps_of}
use Rattle.history_lock.proofs.steps.SharedHistory.open.Given as goal

abbrev pub ghosts-open_with : goal.ghosts-open_with
ghosts-open_with a = record { plan = steps_of a.events.now }
