use Rattle.std.proofs.Common.{take}
use Rattle.event_list.specs.Splits.{AreHostsFrom}
use Rattle.event_list.proofs.split.split_hosts.Given as goal

abbrev pub invariant-loop-merged : goal.invariant-loop-merged
invariant-loop-merged l = AreHostsFrom (take l.merged-index l.trace.events.items) 0 l.trace.names.items l.hosts.items
