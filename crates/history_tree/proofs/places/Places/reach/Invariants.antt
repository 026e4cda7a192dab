use Rattle.std.proofs.Common.{◌+◌, ◌-◌, vec_len}
use Rattle.history_tree.specs.Places.{HaveSame}
use Rattle.history_tree.proofs.places.Places.reach.Given as goal

abbrev pub invariant-loop-alloc : goal.invariant-loop-alloc
invariant-loop-alloc l = HaveSame l.fn.self l.self-inside.rows.items

abbrev pub decreases-loop-alloc : goal.decreases-loop-alloc
decreases-loop-alloc l = l.number + 1 - vec_len l.self-inside.rows
