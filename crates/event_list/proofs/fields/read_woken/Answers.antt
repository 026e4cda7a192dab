use Rattle.event_list.proofs.WordLists.{no_woken, no_target}
use Rattle.event_list.proofs.fields.read_woken.Goals as goal

pub returns-in_err-thread-clause-none : goal.returns-in_err-thread-clause-none
returns-in_err-thread-clause-none c = rw c.from_residual.ensures (no_woken c.args.fields.now c.in_err-thread.ensures.none)

pub returns-in_err-target_cpu-clause-none : goal.returns-in_err-target_cpu-clause-none
returns-in_err-target_cpu-clause-none c = rw c.from_residual-in_err-target_cpu.ensures (no_target c.args.fields.now c.in_err-target_cpu.ensures.none)
