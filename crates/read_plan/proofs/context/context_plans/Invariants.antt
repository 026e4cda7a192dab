use Rattle.std.proofs.Common.{◌≡◌}
use Rattle.read_plan.specs.Contexts.{plans_of_first}
use Rattle.read_plan.proofs.context.context_plans.Given as goal

abbrev pub invariant-loop-index : goal.invariant-loop-index
invariant-loop-index l = l.plans.items ≡ plans_of_first l.table l.index
