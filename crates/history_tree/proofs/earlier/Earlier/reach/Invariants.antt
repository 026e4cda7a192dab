use Rattle.history_tree.proofs.Beginning.{IsReaching}
use Rattle.history_tree.proofs.earlier.Earlier.reach.Given as goal

abbrev pub invariant-loop-number : goal.invariant-loop-number
invariant-loop-number l = IsReaching l.nodes.nodes l.self-inside.numbers.items l.number
