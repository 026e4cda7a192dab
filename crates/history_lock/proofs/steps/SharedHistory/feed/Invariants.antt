use Rattle.std.proofs.Common.{◌≡◌, ◌≤◌}
use Rattle.history_lock.proofs.steps.SharedHistory.feed.Given as goal

abbrev pub invariant-loop : goal.invariant-loop
invariant-loop g l = (l.self ≡ l.fn.self) × (l.builder ≡ record l.fn.builder { misses = l.builder.misses }) × (l.fn.builder.misses ≤ l.builder.misses)
