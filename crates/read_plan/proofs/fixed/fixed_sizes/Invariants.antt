use Rattle.std.proofs.Common.{◌≡◌}
use Rattle.read_plan.specs.FixedSizes.{sizes_of_first}
use Rattle.read_plan.proofs.fixed.fixed_sizes.Given as goal

abbrev pub invariant-loop-index : goal.invariant-loop-index
invariant-loop-index l = l.sizes.items ≡ sizes_of_first l.table l.index
