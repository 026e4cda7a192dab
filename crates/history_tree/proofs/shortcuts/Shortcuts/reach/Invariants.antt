use Rattle.history_tree.proofs.Shortening.{IsReached}
use Rattle.history_tree.proofs.shortcuts.Shortcuts.reach.Given as goal

abbrev pub invariant-loop-number : goal.invariant-loop-number
invariant-loop-number l = IsReached l.fn.self l.self-inside.tops.items l.number
