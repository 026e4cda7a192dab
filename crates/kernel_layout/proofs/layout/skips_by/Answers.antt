use Rattle.std.proofs.Common.{◌∙◌, ◌++◌, ◌∷◌, ◌≡◌, [], sym, ap, map, Option, Some, slice_get, arith, rules}
use Rattle.type_table.specs.declared.declared.EventParts.{EventParts}
use Rattle.kernel_layout.specs.Plans.{plan_at, plan_of}
use Rattle.kernel_layout.specs.Skips.{skip_of}
use Rattle.kernel_layout.specs.declared.plan.EventPlan.{EventPlan}
use Rattle.kernel_layout.proofs.Names.{more_taken, all_taken, number_within}
use Rattle.kernel_layout.proofs.PassedOver.{plan_there}
use Rattle.kernel_layout.proofs.layout.skips_by.Goals as goal

pub loop-parts-preserved : goal.loop-parts-preserved
loop-parts-preserved c =
    let its : EventParts → Option EventPlan = plan_of c.args.meta.now.table c.args.kinds.now in
    let there : slice_get c.args.meta.now.declared.events c.loop-parts.number ≡ Some (c.in-Some.field-0-0, c.in-Some.parts) = search rules in
    let more = more_taken (λ e. skip_of c.args.kinds.now c.args.sizes.now (its e.1) e.1) c.args.meta.now.declared.events c.loop-parts.number (c.in-Some.field-0-0, c.in-Some.parts) there in
    let plan : plan_at c.args.plans.now c.loop-parts.number ≡ its c.in-Some.parts = ap (λ ps. plan_at ps c.loop-parts.number) c.requires ∙ plan_there its c.args.meta.now.declared.events c.loop-parts.number (c.in-Some.field-0-0, c.in-Some.parts) there in
    let pushed : c.push.new.self.items ≡ c.loop-parts.skips.items ++ skip_of c.args.kinds.now c.args.sizes.now (plan_at c.args.plans.now c.loop-parts.number) c.in-Some.parts ∷ [] = search rules in
    pushed
    ∙ ap (λ p. c.loop-parts.skips.items ++ skip_of c.args.kinds.now c.args.sizes.now p c.in-Some.parts ∷ []) plan
    ∙ ap (λ l. l ++ skip_of c.args.kinds.now c.args.sizes.now (its c.in-Some.parts) c.in-Some.parts ∷ []) c.loop-parts.invariant ∙ sym more

pub returns : goal.returns
returns c = c.loop-parts.invariant ∙ ap (map (λ e. skip_of c.args.kinds.now c.args.sizes.now (plan_of c.args.meta.now.table c.args.kinds.now e.1) e.1)) (all_taken c.args.meta.now.declared.events c.loop-parts.number (search rules))

pub overflow_add-number : goal.overflow_add-number
overflow_add-number c =
    let there : slice_get c.args.meta.now.declared.events c.loop-parts.number ≡ Some (c.in-Some.field-0-0, c.in-Some.parts) = search rules in
    let within = number_within c.args.meta.now.declared.events c.loop-parts.number (c.in-Some.field-0-0, c.in-Some.parts) there in
    let few = c.is_sound.ensures.declared.events in
    omega (arith, within, few)
