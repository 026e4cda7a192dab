use Rattle.std.proofs.Common.{◌≡◌, drop}
use Rattle.read_plan.specs.FixedSizes.{members_from, no_size}
use Rattle.read_plan.proofs.fixed.members_size.Given as goal

abbrev pub invariant-loop-field : goal.invariant-loop-field
invariant-loop-field l = members_from l.sizes no_size l.fields ≡ members_from l.sizes l.sum (drop l.field-index l.fields)
