use Rattle.history_tree.specs.Placement.{takes}
use Rattle.history_tree.proofs.Climbs.{height}
use Rattle.history_tree.proofs.Climbing.{IsClimbing}
use Rattle.history_tree.proofs.branch.first_that_takes.Given as goal

abbrev pub invariant-loop-next : goal.invariant-loop-next
invariant-loop-next l = IsClimbing (takes l.start) l.nodes.nodes l.fn.from l.next l.shortcuts

abbrev pub decreases-loop-next : goal.decreases-loop-next
decreases-loop-next l = height l.nodes.nodes l.next
