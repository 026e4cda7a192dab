use Rattle.std.proofs.Common.{◌+◌, ◌-◌, ◌≤◌, IfSome, length}
use Rattle.ht_outside.specs.Files.{bytes_of}
use Rattle.hosttrace.specs.Seen.{OnlyReads, store_seen}
use Rattle.hosttrace.proofs.Parts.{IsFront}
use Rattle.hosttrace.proofs.reading.read_all.Given as goal

abbrev pub invariant-loop-bytes : goal.invariant-loop-bytes
invariant-loop-bytes g l =
    IfSome (g.S.Store.holds l.fn.store) (λ files. IsFront (bytes_of files l.dir l.name) l.bytes.items)
    × OnlyReads (store_seen g.S.Store.holds g.S.Store.faults l.fn.store l.store)
    × (length l.bytes.items ≤ l.limit + 1)

abbrev pub decreases-loop-bytes : goal.decreases-loop-bytes
decreases-loop-bytes g l = l.limit + 1 - length l.bytes.items
