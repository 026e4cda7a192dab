use Rattle.std.proofs.Common.{◌≡◌, ◌≤◌}
use Rattle.history_lock.proofs.steps.SharedHistory.ask_range.Given as goal

abbrev pub invariant-loop : goal.invariant-loop
invariant-loop g l = (l.self ≡ l.fn.self) × (l.pass ≡ record l.fn.pass { misses = l.pass.misses }) × (l.fn.pass.misses ≤ l.pass.misses)
