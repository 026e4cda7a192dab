use Rattle.std.proofs.Common.{◌≡◌, ◌++◌, ◌-◌, drop, length}
use Rattle.host_merge.proofs.Merges.{AreMerged, whole}
use Rattle.host_merge.proofs.lists.merge.Given as goal

abbrev pub invariant-loop-other : goal.invariant-loop-other
invariant-loop-other l = AreMerged l.map l.own l.others l.heads.items l.next l.other-index

abbrev pub invariant-loop-next : goal.invariant-loop-next
invariant-loop-next l = AreMerged l.map l.own l.others l.heads.items l.next l.other-index

abbrev pub decreases-loop-next : goal.decreases-loop-next
decreases-loop-next l = length l.own - l.next

abbrev pub invariant-loop-head : goal.invariant-loop-head
invariant-loop-head l = l.heads.items ++ drop l.head-index l.head-items ≡ whole l.map l.own l.others
