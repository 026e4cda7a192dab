use Rattle.std.proofs.Common.{◌≡◌, ◌∙◌, None, Some, rules}
use Rattle.kernel_layout.specs.Plans.{plan_at}
use Rattle.kernel_layout.specs.Tracepoints.{plans_of}
use Rattle.kernel_layout.proofs.PassedOver.{kind_kept, kind_placed, kind_unplanned}
use Rattle.kernel_layout.proofs.placed.kind_from.Goals as goal

pub returns-in-Some-plan : goal.returns-in-Some-plan
returns-in-Some-plan c = λ whole fields.
    let some : plan_at (plans_of c.args.meta.now) c.args.raw.now.event ≡ Some c.in-Some-plan.plan.now = search rules in
    kind_placed c.args.meta.now c.is_sound.ensures c.args.bits.bytes.now c.args.bits.end c.args.raw.now c.args.from c.in-Some.at whole c.in-Some-plan.plan.now c.kind_planned.result c.in-Some.is some fields c.kind_planned.ensures

pub returns-in-None : goal.returns-in-None
returns-in-None c = λ whole fields.
    let none : plan_at (plans_of c.args.meta.now) c.args.raw.now.event ≡ None = search rules in
    c.kind_of-in-None.ensures ∙ kind_unplanned c.args.meta.now c.args.bits.bytes.now c.args.bits.end c.args.raw.now c.args.from c.in-Some.at whole c.in-Some.is none fields

pub returns-in_default : goal.returns-in_default
returns-in_default c = λ whole fields.
    c.kind_of.ensures ∙ kind_kept c.args.meta.now c.args.bits.bytes.now c.args.bits.end c.args.raw.now c.args.from whole c.in_default.is fields
