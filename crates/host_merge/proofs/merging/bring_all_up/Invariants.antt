use Rattle.std.proofs.Common.{◌-◌}
use Rattle.host_tree.specs.Rooted.{LeadToRoots}
use Rattle.host_merge.specs.Depths.{AreDepths}
use Rattle.host_merge.proofs.Levels.{AreAtLevel}
use Rattle.host_merge.proofs.merging.bring_all_up.Given as goal

abbrev pub invariant-loop-step : goal.invariant-loop-step
invariant-loop-step l = (rooted : LeadToRoots l.forest.items) (are : AreDepths l.forest.items l.depths) → AreAtLevel l.forest.items l.fn.lists.items l.depths rooted are (l.count - l.step) 0 l.lists.items

abbrev pub invariant-loop-host : goal.invariant-loop-host
invariant-loop-host l = (rooted : LeadToRoots l.forest.items) (are : AreDepths l.forest.items l.depths) → AreAtLevel l.forest.items l.fn.lists.items l.depths rooted are l.depth l.host l.lists.items
