use Rattle.std.proofs.Common.{take}
use Rattle.report_views.specs.CallLines.{AreCalls}
use Rattle.report_views.proofs.call_lines.count_calls.Given as goal

abbrev pub invariant-loop-event : goal.invariant-loop-event
invariant-loop-event l = AreCalls l.names (take l.event-index l.events) l.counts.items
