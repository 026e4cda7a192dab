use Rattle.std.proofs.Common.{◌≡◌, ◌+◌, ◌*◌, ◌%◌, ◌^◌, ◌≤◌, ◌-◌, arith, ap, ◌∙◌}
use Rattle.bit_reader.specs.Bits.{integer}
use Rattle.trace_types.specs.declared.byte_order.ByteOrderKind.TheVariants.{Big}
use Rattle.bit_reader.proofs.Turns.{in_a_word, within_both, big_turn}
use Rattle.bit_reader.proofs.bits.byte_by_byte_down.Goals as goal

-- what the turn takes stays within its byte and within what was asked for
within : (c : goal.After-from) → (c.min-taken.result ≤ 8 - (c.args.first + c.loop-done.done) % 8) × (c.min-taken.result ≤ c.args.size - c.loop-done.done)
within c = within_both _ _ _ c.min-taken.ensures

next : (c : goal.After-from) → c.loop-done.number * 2 ^ c.min-taken.result % 2 ^ 64 + c.from.result ≡ integer Big c.args.bytes.now c.args.first (c.loop-done.done + c.min-taken.result)
next c = let w = within c in ap (λ n. n * 2 ^ c.min-taken.result % 2 ^ 64 + c.from.result) c.loop-done.invariant.1
    ∙ big_turn c.args.bytes.now c.args.first c.loop-done.done c.min-taken.result c.from.result (omega (arith, w, c.requires, c.loop-done.invariant.0)) (omega (arith, w)) (c.from.ensures ∙ c.part_of-part.ensures)

pub overflow_add-number : goal.overflow_add-number
overflow_add-number c = let e = next c in let w = within c in let small = in_a_word Big c.args.bytes.now c.args.first (c.loop-done.done + c.min-taken.result) (omega (arith, w, c.requires, c.loop-done.invariant.0)) in omega (arith, e, small)

pub loop-done-preserved : goal.loop-done-preserved
loop-done-preserved c = let w = within c in (omega (arith, w, c.loop-done.invariant.0), next c)
