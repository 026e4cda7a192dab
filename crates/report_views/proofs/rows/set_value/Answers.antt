use Rattle.std.proofs.Common.{sym, rules}
use Rattle.report_views.proofs.RowValues.{set_value_at, set_value_past}
use Rattle.report_views.proofs.rows.set_value.Goals as goal

pub returns-in-Some : goal.returns-in-Some
returns-in-Some c = set_value_at c.args.rows.now.items c.args.number c.in-Some.row.now c.args.value c.in-Some.ensures.value

pub returns-in_default : goal.returns-in_default
returns-in_default c = sym (set_value_past c.args.rows.now.items c.args.number c.args.value (search rules))
