use Rattle.std.proofs.Common.{◌≡◌, ◌≤◌, IfSome, length}
use Rattle.std.specs.List.{AllByRecursion}
use Rattle.hosttrace.specs.Folders.{FILES_LIMIT}
use Rattle.hosttrace.specs.Read.{HasSmallStreams}
use Rattle.hosttrace.specs.Seen.{OnlyReads, store_seen}
use Rattle.hosttrace.proofs.Left.{TracesLeft}
use Rattle.hosttrace.proofs.trace_files.read_trace_files.Given as goal

abbrev pub invariant-loop-at : goal.invariant-loop-at
invariant-loop-at g l =
    IfSome (g.S.Store.holds l.fn.store) (λ files. TracesLeft files l.dirs l.at l.total l.read.items)
    × OnlyReads (store_seen g.S.Store.holds g.S.Store.faults l.fn.store l.store)
    × (l.total ≤ FILES_LIMIT)
    × (length l.read.items ≡ l.at)
    × AllByRecursion HasSmallStreams l.read.items
