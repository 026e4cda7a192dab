use Rattle.std.proofs.Common.{◌≡◌, ◌≤◌, ◌+◌, drop}
use Rattle.decode_pool.specs.Limits.{list_events}
use Rattle.decode_pool.proofs.host_lists.are_within.Given as goal

abbrev pub invariant-loop-list : goal.invariant-loop-list
invariant-loop-list l = (l.left + list_events l.lists ≡ l.fn.most + list_events (drop l.list-index l.lists)) × (l.left ≤ l.fn.most)
