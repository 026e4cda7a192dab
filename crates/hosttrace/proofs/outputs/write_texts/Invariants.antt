use Rattle.std.proofs.Common.{◌≤◌, take}
use Rattle.std.specs.Prelude.{flat_map}
use Rattle.std.specs.Io.KnownBytes.{Appends}
use Rattle.hosttrace.proofs.outputs.write_texts.Given as goal

abbrev pub invariant-loop-text : goal.invariant-loop-text
invariant-loop-text g l = record {
  written : Appends (g.K.Sink.contents l.fn.sink) (g.K.Sink.contents l.sink) (flat_map (λ text. text.items) (take l.text-index l.fn.texts));
  grows : g.K.Sink.faults l.fn.sink ≤ g.K.Sink.faults l.sink;
}
