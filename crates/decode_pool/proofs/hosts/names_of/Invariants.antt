use Rattle.std.proofs.Common.{◌≡◌, ◌-◌, length, take}
use Rattle.decode_pool.proofs.hosts.names_of.Given as goal

abbrev pub invariant-loop-name : goal.invariant-loop-name
invariant-loop-name l = l.names.items ≡ take l.number l.meta.declared.event_names

abbrev pub decreases-loop-name : goal.decreases-loop-name
decreases-loop-name l = length l.meta.declared.event_names - l.number
