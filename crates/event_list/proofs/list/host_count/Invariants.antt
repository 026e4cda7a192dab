use Rattle.std.proofs.Common.{◌≡◌, drop, max}
use Rattle.event_list.specs.Order.{host_count}
use Rattle.event_list.proofs.list.host_count.Given as goal

abbrev pub invariant-loop-merged : goal.invariant-loop-merged
invariant-loop-merged l = max l.count (host_count (drop l.merged-index l.events)) ≡ host_count l.events
