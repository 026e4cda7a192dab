use Rattle.std.proofs.Common.{◌≤◌, IfSome}
use Rattle.std.specs.List.{AllByRecursion}
use Rattle.decode_pool.specs.Hosts.{IsSmall}
use Rattle.hosttrace.specs.Folders.{FILES_LIMIT}
use Rattle.hosttrace.specs.Seen.{OnlyReads, store_seen}
use Rattle.hosttrace.proofs.StreamsRead.{StreamsLeft}
use Rattle.hosttrace.proofs.streams.read_streams.Given as goal

abbrev pub invariant-loop-at : goal.invariant-loop-at
invariant-loop-at g l =
    IfSome (g.S.Store.holds l.fn.store) (λ files. StreamsLeft files l.dir l.names l.fn.total l.at l.total l.files.items)
    × OnlyReads (store_seen g.S.Store.holds g.S.Store.faults l.fn.store l.store)
    × (l.total ≤ FILES_LIMIT)
    × AllByRecursion IsSmall l.files.items
