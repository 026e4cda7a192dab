use Rattle.std.proofs.Common.{◌≡◌, Some, drop}
use Rattle.read_plan.specs.Headers.{AreReadableOptions, both, options_of}
use Rattle.read_plan.proofs.planning.options_of.Given as goal

abbrev pub invariant-loop-label : goal.invariant-loop-label
invariant-loop-label l = record {
  same : both (Some l.options) (options_of l.table l.fields (drop l.label-index l.labels)) ≡ options_of l.table l.fields l.labels;
  readable : AreReadableOptions (Some l.options);
}
