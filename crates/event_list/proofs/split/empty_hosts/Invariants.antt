use Rattle.std.proofs.Common.{[], take, length, ◌≡◌}
use Rattle.event_list.specs.Splits.{AreHostsFrom}
use Rattle.event_list.proofs.split.empty_hosts.Given as goal

abbrev pub invariant-loop-number : goal.invariant-loop-number
invariant-loop-number l = AreHostsFrom [] 0 (take l.number l.lists) l.hosts.items × (length l.hosts.items ≡ l.number)
