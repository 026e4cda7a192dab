use Rattle.std.proofs.Common.{◌≡◌, drop}
use Rattle.tsdl_types.specs.Blocks.{entries_from}
use Rattle.type_scope.specs.View.{state}
use Rattle.tsdl_types.proofs.whole_blocks.entries_behind.Given as goal

abbrev pub invariant-loop-at : goal.invariant-loop-at
invariant-loop-at l = entries_from l.block.order l.block.kind l.block.all.now l.seen (drop l.at l.block.all.now) (state l.types).known ≡ entries_from l.block.order l.block.kind l.block.all.now l.fn.seen l.block.all.now (state l.fn.types).known
