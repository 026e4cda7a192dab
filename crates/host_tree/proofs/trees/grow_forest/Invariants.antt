use Rattle.host_tree.specs.Places.{AreGrown}
use Rattle.host_tree.proofs.trees.grow_forest.Given as goal

abbrev pub invariant-loop-root : goal.invariant-loop-root
invariant-loop-root l = AreGrown l.hosts l.fits l.root 0 l.places
