use Rattle.std.proofs.Common.{rules, ◌≡◌, sym, subst}
use Rattle.read_plan.specs.Contexts.{AreContextPlans, context_plans}
use Rattle.read_plan.proofs.Contexts.{are_context_plans}
use Rattle.read_plan.proofs.context.context_plans.Goals as goal

pub returns-clause-fit : goal.returns-clause-fit
returns-clause-fit c =
    let its : c.loop-index.plans.items ≡ context_plans c.args.table.now = search rules in
    subst (AreContextPlans c.args.table.now) (sym its) (are_context_plans c.args.table.now c.is_sound.ensures)
