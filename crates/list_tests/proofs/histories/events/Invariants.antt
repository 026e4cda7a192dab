use Rattle.list_tests.proofs.Rising.{IsBelow}
use Rattle.list_tests.proofs.histories.events.Given as goal

abbrev pub invariant-loop-key : goal.invariant-loop-key
invariant-loop-key g l = IsBelow l.key l.events.items
