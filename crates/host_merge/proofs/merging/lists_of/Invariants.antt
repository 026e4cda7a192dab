use Rattle.std.proofs.Common.{◌≡◌, take}
use Rattle.host_merge.specs.Lists.{own_lists}
use Rattle.host_merge.proofs.merging.lists_of.Given as goal

abbrev pub invariant-loop-host : goal.invariant-loop-host
invariant-loop-host l = l.lists.items ≡ own_lists (take l.host-index l.hosts)
