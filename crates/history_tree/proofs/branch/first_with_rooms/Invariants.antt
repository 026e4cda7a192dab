use Rattle.history_tree.specs.Placement.{has_rooms}
use Rattle.history_tree.proofs.Climbs.{height}
use Rattle.history_tree.proofs.Climbing.{IsClimbing}
use Rattle.history_tree.proofs.branch.first_with_rooms.Given as goal

abbrev pub invariant-loop-next : goal.invariant-loop-next
invariant-loop-next l = IsClimbing has_rooms l.nodes.nodes l.fn.from l.next l.shortcuts

abbrev pub decreases-loop-next : goal.decreases-loop-next
decreases-loop-next l = height l.nodes.nodes l.next
