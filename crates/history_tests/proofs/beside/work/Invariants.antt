use Rattle.std.proofs.Common.{◌≡◌}
use Rattle.history_tests.specs.Fed.{IsReady}
use Rattle.history_tests.proofs.beside.work.Given as goal

abbrev pub invariant-loop : goal.invariant-loop
invariant-loop g l = (l.shared ≡ l.fn.shared) × IsReady l.fn.shared l.job
