use Rattle.std.proofs.Common.{◌≡◌, ◌++◌, drop}
use Rattle.read_plan.specs.Headers.{AreReadable, leading_numbers}
use Rattle.read_plan.proofs.planning.leading_numbers.Given as goal

abbrev pub invariant-loop-field : goal.invariant-loop-field
invariant-loop-field l = record {
  same : l.numbers ++ leading_numbers l.table l.tag (drop l.field-index l.fields) ≡ leading_numbers l.table l.tag l.fields;
  readable : AreReadable l.numbers;
}
