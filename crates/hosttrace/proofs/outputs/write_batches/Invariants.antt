use Rattle.std.proofs.Common.{◌≡◌, ◌≤◌, ◌++◌, ℕ, List, length}
use Rattle.std.specs.Io.KnownBytes.{Appends}
use Rattle.event_list.specs.Names.{names_at}
use Rattle.hosttrace.specs.Outputs.{event_lines}
use Rattle.hosttrace.proofs.outputs.write_batches.Given as goal

abbrev pub invariant-loop-rest : goal.invariant-loop-rest
invariant-loop-rest g l = record {
  written : (front : List ℕ) × (event_lines (names_at l.fn.names) l.fn.events ≡ front ++ event_lines (names_at l.fn.names) l.rest) × Appends (g.K.Sink.contents l.fn.sink) (g.K.Sink.contents l.sink) front;
  grows : g.K.Sink.faults l.fn.sink ≤ g.K.Sink.faults l.sink;
}

abbrev pub decreases-loop-rest : goal.decreases-loop-rest
decreases-loop-rest g l = length l.rest
