use Rattle.std.proofs.Common.{take}
use Rattle.host_tree.specs.Gathered.{AreGathered}
use Rattle.host_tree.proofs.points.add_points.Given as goal

abbrev pub invariant-loop-message : goal.invariant-loop-message
invariant-loop-message l = AreGathered l.side l.hosts (take l.message-index l.messages) l.lists.items
