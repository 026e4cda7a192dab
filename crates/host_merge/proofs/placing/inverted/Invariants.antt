use Rattle.std.proofs.Common.{◌≡◌, filter, slice_get}
use Rattle.std.specs.List.{range_with_len}
use Rattle.host_merge.specs.Placed.{is_inverted}
use Rattle.host_merge.proofs.placing.inverted.Given as goal

abbrev pub invariant-loop-number : goal.invariant-loop-number
invariant-loop-number l = l.numbers.items ≡ filter (λ k. is_inverted (slice_get l.placed k)) (range_with_len 0 l.number)
