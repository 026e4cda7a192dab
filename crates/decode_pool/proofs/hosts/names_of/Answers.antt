use Rattle.std.proofs.Common.{◌∙◌, sym, arith}
use Rattle.kernel_layout.proofs.Names.{all_taken, number_within}
use Rattle.decode_pool.proofs.Taken.{next_taken}
use Rattle.decode_pool.proofs.hosts.names_of.Goals as goal

pub loop-name-preserved : goal.loop-name-preserved
loop-name-preserved c = rw (c.in_ok-push.ensures.items, c.loop-name.invariant, c.in_ok-from_bytes.ensures.value) (sym (next_taken c.args.meta.now.declared.event_names c.loop-name.number c.in-Some.name.now c.in-Some.ensures.found))

pub returns : goal.returns
returns c = c.loop-name.invariant ∙ all_taken c.args.meta.now.declared.event_names c.loop-name.number c.in_default.ensures.none

pub overflow_add-number : goal.overflow_add-number
overflow_add-number c =
    let within = number_within c.args.meta.now.declared.event_names c.loop-name.number c.in-Some.name.now c.in-Some.ensures.found in
    let few = c.is_sound.ensures.declared.names in
    omega (arith, within, few)
