use Rattle.std.proofs.Common.{◌+◌, ◌<◌, count_by, is_none}
use Rattle.host_tree.specs.Places.{AreGrown}
use Rattle.host_tree.proofs.trees.grow_tree.Given as goal

abbrev pub invariant-loop-level : goal.invariant-loop-level
invariant-loop-level l = AreGrown l.hosts l.fits l.root (l.level + 1) l.places × (l.level + count_by is_none l.places < l.hosts)

abbrev pub decreases-loop-level : goal.decreases-loop-level
decreases-loop-level l = count_by is_none l.places
