use Rattle.std.proofs.Common.{◌≡◌, ◌∙◌, refl, sym, ap, Option, None, Some, rules}
use Rattle.std.specs.Option.{option_copied, IfSome}
use Rattle.kernel_layout.specs.Plans.{IsPlan, plan_at}
use Rattle.kernel_layout.specs.Tracepoints.{plans_of}
use Rattle.kernel_layout.proofs.PassedOver.{plan_is}
use Rattle.kernel_layout.proofs.layout.Layout.plan.Goals as goal

pub returns-clause-plan : goal.returns-clause-plan
returns-clause-plan c = by c.plan_at.result refl
  where
    is : option_copied c.plan_at.result ≡ plan_at (plans_of c.args.meta.now) c.args.event
    is = search rules

    by : (o : Option _) → c.plan_at.result ≡ o → IfSome o (λ plan. IsPlan c.args.meta.now.table plan.now)
    by None e = tt
    by (Some plan) e = plan_is c.args.meta.now c.is_sound.ensures c.args.event plan.now (sym is ∙ ap option_copied e)
