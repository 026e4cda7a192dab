use Rattle.std.proofs.Common.{◌≤◌}
use Rattle.decode_pool.proofs.batches.batch_length.Given as goal

abbrev pub invariant-loop-at : goal.invariant-loop-at
invariant-loop-at l = l.events ≤ 8388608
