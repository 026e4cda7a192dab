use Rattle.std.proofs.Common.{◌≡◌, ◌≤◌, ◌++◌, drop, length}
use Rattle.trace_gen.specs.Events.{own}
use Rattle.trace_gen.proofs.events.own.Given as goal

abbrev pub invariant-loop-event : goal.invariant-loop-event
invariant-loop-event l = (l.kept.items ++ own l.host (drop l.event-index l.events) ≡ own l.host l.events) × (length l.kept.items ≤ l.event-index)
