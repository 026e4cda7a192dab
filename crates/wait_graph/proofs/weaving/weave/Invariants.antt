use Rattle.wait_graph.specs.Wakes.{AreWoven}
use Rattle.wait_graph.proofs.weaving.weave.Given as goal

abbrev pub invariant-loop-place : goal.invariant-loop-place
invariant-loop-place l = AreWoven l.wakes l.place l.fn.vertices l.vertices
