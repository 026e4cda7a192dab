use Rattle.std.proofs.Common.{◌∙◌, ◌++◌, ◌∷◌, ◌≡◌, [], sym, ap, map, Some, slice_get, arith, rules}
use Rattle.kernel_layout.specs.Plans.{plan_of}
use Rattle.kernel_layout.proofs.Names.{more_taken, all_taken, number_within}
use Rattle.kernel_layout.proofs.layout.plans_by.Goals as goal

pub loop-parts-preserved : goal.loop-parts-preserved
loop-parts-preserved c =
    let there : slice_get c.args.meta.now.declared.events c.loop-parts.number ≡ Some (c.in-Some.field-0-0, c.in-Some.parts) = search rules in
    let more = more_taken (λ e. plan_of c.args.meta.now.table c.args.kinds.now e.1) c.args.meta.now.declared.events c.loop-parts.number (c.in-Some.field-0-0, c.in-Some.parts) there in
    let pushed : c.push.new.self.items ≡ c.loop-parts.plans.items ++ plan_of c.args.meta.now.table c.args.kinds.now c.in-Some.parts ∷ [] = search rules in
    pushed ∙ ap (λ l. l ++ plan_of c.args.meta.now.table c.args.kinds.now c.in-Some.parts ∷ []) c.loop-parts.invariant ∙ sym more

pub returns : goal.returns
returns c = c.loop-parts.invariant ∙ ap (map (λ e. plan_of c.args.meta.now.table c.args.kinds.now e.1)) (all_taken c.args.meta.now.declared.events c.loop-parts.number (search rules))

pub overflow_add-number : goal.overflow_add-number
overflow_add-number c =
    let there : slice_get c.args.meta.now.declared.events c.loop-parts.number ≡ Some (c.in-Some.field-0-0, c.in-Some.parts) = search rules in
    let within = number_within c.args.meta.now.declared.events c.loop-parts.number (c.in-Some.field-0-0, c.in-Some.parts) there in
    let few = c.is_sound.ensures.declared.events in
    omega (arith, within, few)
