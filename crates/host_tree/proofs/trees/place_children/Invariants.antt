use Rattle.host_tree.proofs.Children.{AreUnderBelow}
use Rattle.host_tree.proofs.trees.place_children.Given as goal

abbrev pub invariant-loop-child : goal.invariant-loop-child
invariant-loop-child l = AreUnderBelow l.hosts l.fits l.root l.level l.parent l.child l.added l.fn.places l.places
