use Rattle.std.proofs.Common.{◌≡◌, All}
use Rattle.history_tests.specs.Fed.{IsReady}
use Rattle.history_tests.proofs.beside.jobs.Given as goal

abbrev pub invariant-loop-number : goal.invariant-loop-number
invariant-loop-number l = (l.shared ≡ l.fn.shared) × (l.limit ≡ l.fn.limit) × (l.pass.table ≡ l.fn.shared) × All (IsReady l.fn.shared) l.jobs.items
