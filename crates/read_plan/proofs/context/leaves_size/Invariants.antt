use Rattle.std.proofs.Common.{◌≡◌, drop}
use Rattle.read_plan.specs.Contexts.{leaves_size}
use Rattle.read_plan.specs.FixedSizes.{no_size}
use Rattle.read_plan.proofs.context.leaves_size.Given as goal

abbrev pub invariant-loop-field : goal.invariant-loop-field
invariant-loop-field l = leaves_size l.table no_size l.fields ≡ leaves_size l.table l.sum (drop l.field-index l.fields)
