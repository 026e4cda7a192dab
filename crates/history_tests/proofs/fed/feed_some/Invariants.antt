use Rattle.std.proofs.Common.{◌≡◌}
use Rattle.history_tests.specs.Fed.{IsAt}
use Rattle.history_tests.proofs.fed.feed_some.Given as goal

abbrev pub invariant-loop : goal.invariant-loop
invariant-loop g l = (l.shared ≡ l.fn.shared) × (l.events ≡ l.fn.events) × (l.builder.table ≡ l.fn.shared) × IsAt l.fn.events l.builder l.provider
