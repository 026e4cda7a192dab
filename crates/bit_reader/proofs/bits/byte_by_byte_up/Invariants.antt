use Rattle.std.proofs.Common.{◌-◌, ◌≡◌, ◌≤◌}
use Rattle.bit_reader.specs.Bits.{integer}
use Rattle.trace_types.specs.declared.byte_order.ByteOrderKind.TheVariants.{Little}
use Rattle.bit_reader.proofs.bits.byte_by_byte_up.Given as goal

abbrev pub invariant-loop-done : goal.invariant-loop-done
invariant-loop-done l = (l.done ≤ l.size) × (l.number ≡ integer Little l.bytes l.first l.done)

abbrev pub decreases-loop-done : goal.decreases-loop-done
decreases-loop-done l = l.size - l.done
