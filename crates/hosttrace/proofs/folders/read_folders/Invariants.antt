use Rattle.std.proofs.Common.{◌≡◌, ◌≤◌, IfSome, length}
use Rattle.hosttrace.specs.Folders.{FILES_LIMIT}
use Rattle.hosttrace.specs.Seen.{OnlyReads, store_seen}
use Rattle.hosttrace.proofs.Left.{FoldersLeft}
use Rattle.hosttrace.proofs.folders.read_folders.Given as goal

abbrev pub invariant-loop-at : goal.invariant-loop-at
invariant-loop-at g l =
    IfSome (g.S.Store.holds l.fn.store) (λ files. FoldersLeft files l.folders l.at l.total l.texts.items)
    × OnlyReads (store_seen g.S.Store.holds g.S.Store.faults l.fn.store l.store)
    × (l.total ≤ FILES_LIMIT)
    × (length l.texts.items ≡ l.at)
