use Rattle.std.proofs.Common.{rules, to_z-of_z}
use Rattle.std.specs.Int.{w64}
use Rattle.event_list.proofs.WordLists.{switch_found, no_prev, no_state, no_next}
use Rattle.event_list.proofs.fields.read_switch.Goals as goal

pub returns-in_err-prev-clause-none : goal.returns-in_err-prev-clause-none
returns-in_err-prev-clause-none c = rw c.from_residual.ensures (no_prev c.args.fields.now c.in_err-prev.ensures.none)

pub returns-in_err-prev_state-clause-none : goal.returns-in_err-prev_state-clause-none
returns-in_err-prev_state-clause-none c = rw c.from_residual-in_err-prev_state.ensures (no_state c.args.fields.now c.in_err-prev_state.ensures.none)

pub returns-in_err-next-clause-none : goal.returns-in_err-next-clause-none
returns-in_err-next-clause-none c = rw c.from_residual-in_err-next.ensures (no_next c.args.fields.now c.in_err-next.ensures.none)

pub returns-clause-found : goal.returns-clause-found
returns-clause-found c =
    rw (to_z-of_z {w = w64} {z = c.in_ok-prev_state.prev_state} (search rules), to_z-of_z c.in_ok-prev.ensures.found.prio_fits, to_z-of_z c.in_ok-next.ensures.found.prio_fits)
    (switch_found c.args.fields.now c.in_ok-prev.prev c.in_ok-next.next c.in_ok-prev_state.prev_state c.in-len7.len_at_least c.in-len7.len_below c.in_ok-prev.ensures.found c.in_ok-prev_state.ensures.found (search rules) c.in_ok-next.ensures.found)
