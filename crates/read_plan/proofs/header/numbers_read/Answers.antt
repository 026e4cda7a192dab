use Rattle.std.proofs.Common.{◌∙◌, arith, rules, to_z-of_z}
use Rattle.std.specs.Int.{w128}
use Rattle.read_plan.proofs.Taken.{number_taken}
use Rattle.read_plan.proofs.header.numbers_read.Goals as goal

pub loop-number-preserved : goal.loop-number-preserved
loop-number-preserved c =
    let taken = number_taken c.args.bits.bytes.now c.args.bits.end c.args.numbers.now c.loop-number.number-index _ c.loop-number.told c.with_number-told.result c.loop-number.bit c.in-Some.value _ c.in-Some.end c.loop-number-test.true c.loop-number.invariant.readable c.requires.span.small c.in-Some.ensures c.with_number-told.ensures (to_z-of_z {w = w128} (search rules)) in
    record {
      same = c.loop-number.invariant.same ∙ taken.same;
      readable = taken.readable;
      forward = omega (arith, c.loop-number.invariant.forward, taken.forward);
      small = taken.small;
    }
