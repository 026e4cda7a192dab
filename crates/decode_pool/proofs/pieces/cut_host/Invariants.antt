use Rattle.std.proofs.Common.{◌≡◌, ◌≤◌, ◌+◌, ◌++◌, All, drop, map}
use Rattle.std.specs.List.{AllByRecursion}
use Rattle.decode_pool.specs.Hosts.{IsSmall, all_parts, part_counts}
use Rattle.decode_pool.specs.Jobs.{Allows, CanDecode, job_part}
use Rattle.decode_pool.specs.Limits.{host_packets}
use Rattle.decode_pool.proofs.pieces.cut_host.Given as goal

abbrev pub invariant-loop-file : goal.invariant-loop-file
invariant-loop-file l = All CanDecode l.jobs.items
    × All (Allows l.limits.events) l.jobs.items
    × (map job_part l.jobs.items ++ all_parts l.host.host l.host.meta (drop l.file-index l.host.files.items) ≡ map job_part l.initial.jobs.items ++ all_parts l.host.host l.host.meta l.host.files.items)
    × (l.counts.items ++ part_counts l.host.host l.host.meta (drop l.file-index l.host.files.items) ≡ part_counts l.host.host l.host.meta l.host.files.items)
    × AllByRecursion IsSmall (drop l.file-index l.host.files.items)
    × (l.left.packets + host_packets l.host.meta l.host.files.items ≡ l.limits.packets + host_packets l.host.meta (drop l.file-index l.host.files.items))
    × (l.left.packets ≤ l.limits.packets)
    × (l.left.events ≡ l.limits.events)
