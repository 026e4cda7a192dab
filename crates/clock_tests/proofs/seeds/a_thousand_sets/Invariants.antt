use Rattle.std.proofs.Common.{◌≤◌}
use Rattle.clock_tests.proofs.seeds.a_thousand_sets.Given as goal

abbrev pub invariant-loop : goal.invariant-loop
invariant-loop g l = l.maps ≤ l.counter
