use Rattle.std.proofs.Common.{ℕ, ◌+◌, ◌-◌, ◌<◌, length}
use Rattle.host_tree.specs.Rooted.{IsAtDepth}
use Rattle.host_merge.proofs.depths.depth_of.Given as goal

abbrev pub invariant-loop-parent : goal.invariant-loop-parent
invariant-loop-parent l = (l.at < length l.forest.items) × ((rest : ℕ) × IsAtDepth l.forest.items rest l.at × IsAtDepth l.forest.items (rest + l.depth) l.host × (rest + l.depth < length l.forest.items))

abbrev pub decreases-loop-parent : goal.decreases-loop-parent
decreases-loop-parent l = length l.forest.items - l.depth
