use Rattle.std.proofs.Common.{Some}
use Rattle.history_tree.proofs.Climbs.{height}
use Rattle.history_tree.proofs.Shortening.{IsPassing}
use Rattle.history_tree.proofs.shortcuts.Shortcuts.pass_full.Given as goal

abbrev pub invariant-loop-above : goal.invariant-loop-above
invariant-loop-above l = IsPassing l.nodes.nodes l.from l.number l.self

abbrev pub decreases-loop-above : goal.decreases-loop-above
decreases-loop-above l = height l.nodes.nodes (Some l.number)
