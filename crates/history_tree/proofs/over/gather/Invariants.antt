use Rattle.std.proofs.Common.{◌≡◌, ◌++◌, filter, take}
use Rattle.history_tree.specs.Over.{is_sought}
use Rattle.history_tree.proofs.over.gather.Given as goal

abbrev pub invariant-loop-interval : goal.invariant-loop-interval
invariant-loop-interval l = l.found.items ≡ l.fn.found.items ++ filter (is_sought l.sought) (take l.interval-index l.intervals)
