use Rattle.std.proofs.Common.{◌≡◌, drop}
use Rattle.kernel_layout.specs.Needed.{joined}
use Rattle.kernel_layout.proofs.segments.list_address.Given as goal

abbrev pub invariant-loop-item : goal.invariant-loop-item
invariant-loop-item l = joined l.integer.size l.address (drop l.item-index l.items) ≡ joined l.integer.size 0 l.items
