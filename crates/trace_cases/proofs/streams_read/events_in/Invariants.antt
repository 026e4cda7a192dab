use Rattle.std.proofs.Common.{◌≡◌, ◌-◌}
use Rattle.trace_cases.proofs.streams_read.events_in.Given as goal

abbrev pub invariant-loop-events : goal.invariant-loop-events
invariant-loop-events l = l.reader.within.meta ≡ l.meta

abbrev pub decreases-loop-events : goal.decreases-loop-events
decreases-loop-events l = l.reader.within.end - l.reader.read
