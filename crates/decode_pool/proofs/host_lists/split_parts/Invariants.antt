use Rattle.std.proofs.Common.{◌≡◌, ◌++◌, drop, map}
use Rattle.std.specs.List.{AllByRecursion}
use Rattle.std.specs.Vec.Iter.{into_iter_items}
use Rattle.decode_pool.specs.Jobs.{HasParts, host_of, hosts_parts, owner}
use Rattle.decode_pool.proofs.host_lists.split_parts.Given as goal

abbrev pub invariant-loop-pieces : goal.invariant-loop-pieces
invariant-loop-pieces l = AllByRecursion HasParts l.split.items
    × (map owner l.split.items ++ map host_of (drop l.pieces-index l.hosts) ≡ map host_of l.hosts)
    × (into_iter_items l.left ≡ hosts_parts (map host_of (drop l.pieces-index l.hosts)))
