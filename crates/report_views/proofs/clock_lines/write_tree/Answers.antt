use Rattle.std.proofs.Common.{rules, append_assoc}
use Rattle.report_views.proofs.clock_lines.write_tree.Goals as goal

pub returns-in-Child : goal.returns-in-Child
returns-in-Child c = rw c.in-Child.is (simp append_assoc (search rules))
