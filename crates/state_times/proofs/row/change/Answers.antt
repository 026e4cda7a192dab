use Rattle.std.proofs.Common.{sym, rules}
use Rattle.state_times.proofs.Placed.{changed_past, changed_there}
use Rattle.state_times.proofs.row.change.Goals as goal

pub returns-in-Some : goal.returns-in-Some
returns-in-Some c = rw c.changed.ensures (changed_there c.args.rows.now.items c.args.number c.args.t c.in-Some.row.now c.args.value c.in-Some.ensures.value)

pub returns-in_default : goal.returns-in_default
returns-in_default c = sym (changed_past c.args.rows.now.items c.args.number c.args.t c.args.value (search rules))
