use Rattle.std.proofs.Common.{rules}
use Rattle.report_views.proofs.CallLines.{more_past, more_there}
use Rattle.report_views.proofs.call_lines.count_name.Goals as goal

pub returns-in-Some : goal.returns-in-Some
returns-in-Some c = more_there c.args.counts.now.items c.args.number c.in-Some.count.now c.in-Some.ensures.value

pub returns-in_default : goal.returns-in_default
returns-in_default c = more_past c.args.counts.now.items c.args.number (search rules)
