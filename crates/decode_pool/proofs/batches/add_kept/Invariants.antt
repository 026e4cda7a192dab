use Rattle.std.proofs.Common.{◌≡◌, ◌+◌, ◌++◌}
use Rattle.decode_pool.specs.Excess.{kept_parts, least_events}
use Rattle.decode_pool.proofs.batches.add_kept.Given as goal

abbrev pub invariant-loop-part : goal.invariant-loop-part
invariant-loop-part l = (l.parts.items ≡ l.initial.parts.items ++ kept_parts l.yielded)
    × (l.left + least_events l.fn.room l.yielded ≡ l.fn.room)
    × (l.yielded ++ l.part-iterator.rest.items ≡ l.fn.found.items)
