use Rattle.std.proofs.Common.{◌∙◌, sym, ap, map, arith}
use Rattle.kernel_layout.specs.Tracepoints.{kind_named}
use Rattle.kernel_layout.proofs.Names.{more_taken, all_taken, number_within}
use Rattle.kernel_layout.proofs.layout.kinds_of.Goals as goal

pub loop-name-preserved : goal.loop-name-preserved
loop-name-preserved c = rw (c.in_ok-push.ensures.items, c.loop-name.invariant, c.kind_named.ensures) (sym (more_taken kind_named c.args.meta.now.declared.event_names c.loop-name.number c.in-Some.name.now c.in-Some.ensures.found))

pub returns : goal.returns
returns c = c.loop-name.invariant ∙ ap (map kind_named) (all_taken c.args.meta.now.declared.event_names c.loop-name.number c.in_default.ensures.none)

pub overflow_add-number : goal.overflow_add-number
overflow_add-number c =
    let within = number_within c.args.meta.now.declared.event_names c.loop-name.number c.in-Some.name.now c.in-Some.ensures.found in
    let few = c.is_sound.ensures.declared.names in
    omega (arith, within, few)
