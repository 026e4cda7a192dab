use Rattle.history_core.proofs.Keeping.{kept_new}
use Rattle.history_core.proofs.Standing.{stands_new}
use Rattle.history_core.proofs.history.History.new.Goals as goal

pub invariant_of-result : goal.invariant_of-result
invariant_of-result c = rw (c.new.ensures, c.in_ok-new.ensures, c.new-3.ensures) kept_new

pub returns-clause-stands : goal.returns-clause-stands
returns-clause-stands c = rw (c.new.ensures, c.in_ok-new.ensures, c.new-3.ensures) stands_new
