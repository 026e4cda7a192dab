use Rattle.std.proofs.Common.{◌≡◌, refl, drop, ◌+◌, false, rules}
use Rattle.trace_types.specs.Same.{same_value}
use Rattle.trace_types.specs.declared.value.Value.TheVariants as values
use Rattle.kernel_provider.specs.Steps.{is_held}
use Rattle.kernel_provider.proofs.Turns.{head, new_busy, add_steps, add_table}
use Rattle.kernel_provider.proofs.queue.assign_next.Goals as goal

pub returns-in-None-2-clause-steps : goal.returns-in-None-2-clause-steps
returns-in-None-2-clause-steps c =
    let h = head c.args.queue.now.assignments.items c.args.queue.now.next c.args.assignment.now c.requires.waiting in
    let new : is_held c.args.table.now.table c.args.assignment.now.path ≡ false = search rules in
    let some : same_value c.args.assignment.now.value values.Null ≡ false = search rules in
    let busy = new_busy c.args.queue.now.key c.args.table.now.table c.args.assignment.now (drop (c.args.queue.now.next + 1) c.args.queue.now.assignments.items) new some in
    let more = drop (c.args.queue.now.next + 1) c.args.queue.now.assignments.items in (
      rw (c.add.ensures, h) (add_steps c.args.queue.now.key c.args.table.now.table c.args.assignment.now more busy new),
      rw (c.add.ensures, h) (add_table c.args.queue.now.key c.args.table.now.table c.args.assignment.now more busy new),
      refl,
    )
