use Rattle.std.proofs.Common.{◌*◌, ◌≤◌}
use Rattle.history_tests.proofs.Rising.{IsUpTo}
use Rattle.history_tests.proofs.drawn.merge.Given as goal

abbrev pub invariant-loop : goal.invariant-loop
invariant-loop l = IsUpTo l.key l.events.items × (l.key ≤ 3 * l.counter)
