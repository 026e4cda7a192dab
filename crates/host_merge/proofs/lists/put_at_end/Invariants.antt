use Rattle.std.proofs.Common.{take}
use Rattle.host_merge.specs.Lists.{IsJoined}
use Rattle.host_merge.proofs.lists.put_at_end.Given as goal

abbrev pub invariant-loop-other : goal.invariant-loop-other
invariant-loop-other l = IsJoined l.map (take l.other-index l.others) l.fn.heads.items l.heads.items
