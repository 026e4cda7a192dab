use Rattle.std.proofs.Common.{◌≡◌, Some, drop}
use Rattle.read_plan.specs.Headers.{AreReadableOptions, option_read}
use Rattle.read_plan.proofs.header.option_read.Given as goal

abbrev pub invariant-loop-option : goal.invariant-loop-option
invariant-loop-option l = record {
  same : option_read l.bits.bytes.now l.bits.end l.options l.tag l.before l.at ≡ option_read l.bits.bytes.now l.bits.end (drop l.option-index l.options) l.tag l.before l.at;
  readable : AreReadableOptions (Some (drop l.option-index l.options));
}
