use Rattle.std.proofs.Common.{◌≤◌, take}
use Rattle.hosttrace.specs.Outputs.{AppendsLines}
use Rattle.hosttrace.proofs.long_lines.write_each.Given as goal

abbrev pub invariant-loop-event : goal.invariant-loop-event
invariant-loop-event g l = record {
  written : AppendsLines (g.K.Sink.contents l.fn.sink) (g.K.Sink.contents l.sink) l.fn.names (take l.event-index l.fn.events);
  grows : g.K.Sink.faults l.fn.sink ≤ g.K.Sink.faults l.sink;
}
