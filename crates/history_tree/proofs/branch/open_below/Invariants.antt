use Rattle.history_tree.proofs.Opening.{IsOpening}
use Rattle.history_tree.proofs.branch.open_below.Given as goal

abbrev pub invariant-loop-level : goal.invariant-loop-level
invariant-loop-level l = IsOpening l.fn.nodes l.nodes l.fn.parent l.number l.level l.fn.start

abbrev pub decreases-loop-level : goal.decreases-loop-level
decreases-loop-level l = l.level
