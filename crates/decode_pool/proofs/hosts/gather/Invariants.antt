use Rattle.std.proofs.Common.{◌≡◌, ◌+◌, ◌++◌, drop}
use Rattle.decode_pool.specs.Hosts.{IsCalledAs, all_events, all_incomplete, all_packets, all_parts, all_refused}
use Rattle.decode_pool.proofs.hosts.gather.Given as goal

abbrev pub invariant-loop-at : goal.invariant-loop-at
invariant-loop-at l = (l.gathered.events.items ++ all_events l.host.host l.host.meta (drop l.at l.host.files.items) ≡ all_events l.host.host l.host.meta l.host.files.items)
    × (l.gathered.refused.items ++ all_refused l.host.host l.host.meta (drop l.at l.host.files.items) ≡ all_refused l.host.host l.host.meta l.host.files.items)
    × (l.gathered.packets + all_packets l.host.host l.host.meta (drop l.at l.host.files.items) ≡ all_packets l.host.host l.host.meta l.host.files.items)
    × (l.gathered.incomplete + all_incomplete l.host.host l.host.meta (drop l.at l.host.files.items) ≡ all_incomplete l.host.host l.host.meta l.host.files.items)
    × (l.left ≡ all_parts l.host.host l.host.meta (drop l.at l.host.files.items))
    × IsCalledAs l.host l.gathered
