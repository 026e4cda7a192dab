use Rattle.history_tree.specs.Records.{content_of}
use Rattle.history_tests.proofs.Free.{IsFreeUntil}
use Rattle.history_tests.proofs.grown.is_free.Given as goal

abbrev pub invariant-loop-t : goal.invariant-loop-t
invariant-loop-t l = IsFreeUntil (content_of l.tree.nodes) l.interval.number l.interval.start l.t
