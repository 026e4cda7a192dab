use Rattle.std.proofs.Common.{◌≡◌, ◌≤◌, ◌+◌, ◌++◌, All, drop, map}
use Rattle.std.specs.List.{AllByRecursion}
use Rattle.decode_pool.specs.Jobs.{Allows, CanDecode, IsCounted, host_of, hosts_parts, job_part}
use Rattle.decode_pool.specs.Limits.{HasSmallFiles, packet_count}
use Rattle.decode_pool.proofs.pieces.cut_hosts.Given as goal

abbrev pub invariant-loop-at : goal.invariant-loop-at
invariant-loop-at l = All CanDecode l.jobs.items
    × All (Allows l.fn.limits.events) l.jobs.items
    × (map job_part l.jobs.items ++ hosts_parts (drop l.at l.hosts) ≡ hosts_parts l.hosts)
    × All IsCounted l.cut.items
    × (map host_of l.cut.items ++ drop l.at l.hosts ≡ l.hosts)
    × AllByRecursion HasSmallFiles (drop l.at l.hosts)
    × (l.left.packets + packet_count l.hosts ≡ l.fn.limits.packets + packet_count (drop l.at l.hosts))
    × (l.left.packets ≤ l.fn.limits.packets)
    × (l.left.events ≡ l.fn.limits.events)
