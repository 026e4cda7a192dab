use Rattle.std.proofs.Common.{◌≡◌}
use Rattle.trace_gen.specs.Layout.{packets}
use Rattle.trace_gen.proofs.packets.file_bytes.Given as goal

abbrev pub invariant-loop-number : goal.invariant-loop-number
invariant-loop-number l = l.bytes.items ≡ packets l.number l.events
