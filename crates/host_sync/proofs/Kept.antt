-- What synchronization keeps of the hosts' lists, and which events come first.
use Rattle.std.proofs.Common.{length}
use Rattle.host_tree.proofs.Order.{rooted}
use Rattle.host_merge.specs.Kept.{IsMergeByMessages}
use Rattle.host_merge.proofs.Kept.{keeps_order}
use Rattle.host_merge.proofs.Theirs.{none_inverted, sends_first}
use Rattle.host_sync.specs.Laws.{SyncedKeepOrder, SyncedSendsFirst}

pub synced_keep_order : SyncedKeepOrder
synced_keep_order hosts drift s are is = keeps_order s.parents hosts s.merged is.forest.count (rooted (length hosts) s.fits s.parents is.forest) are.own are.in_time is.merge

pub synced_sends_first : SyncedSendsFirst
synced_sends_first hosts drift s are is k m p em ep pair =
    let by_messages : IsMergeByMessages hosts s.matched s.fits s.parents s.merged =
    record { own = are.own; in_time = are.in_time; from_one = are.from_one; ambiguous = s.ambiguous; messages = is.messages; drift = drift; fits_are = is.fits_are; forest = is.forest; merge = is.merge } in
    let at = is.places.each k m p em ep in (
      sends_first hosts s.matched s.ambiguous is.messages drift s.fits s.parents s.merged are.own are.in_time are.from_one is.fits_are is.forest is.merge k m p.send p.receive em pair at.0 at.1,
      none_inverted hosts s.matched s.fits s.parents s.merged s.placed by_messages is.places k m em pair,
    )
