use Rattle.std.proofs.Common.{◌≡◌, ◌≤◌, ◌^◌, drop}
use Rattle.read_plan.specs.Headers.{AreReadable, numbers_read}
use Rattle.read_plan.proofs.header.numbers_read.Given as goal

abbrev pub invariant-loop-number : goal.invariant-loop-number
invariant-loop-number l = record {
  same : numbers_read l.bits.bytes.now l.bits.end l.numbers l.fn.before l.at ≡ numbers_read l.bits.bytes.now l.bits.end (drop l.number-index l.numbers) l.told l.bit;
  readable : AreReadable (drop l.number-index l.numbers);
  forward : l.at ≤ l.bit;
  small : l.bit ≤ 2 ^ 63;
}
