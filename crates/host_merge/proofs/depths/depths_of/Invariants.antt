use Rattle.std.proofs.Common.{◌≡◌, ℕ, Some, length, slice_get}
use Rattle.host_tree.specs.Rooted.{IsAtDepth}
use Rattle.host_merge.proofs.depths.depths_of.Given as goal

abbrev pub invariant-loop-host : goal.invariant-loop-host
invariant-loop-host l = (length l.depths.items ≡ l.host) × ((host depth : ℕ) → slice_get l.depths.items host ≡ Some depth → IsAtDepth l.forest.items depth host)
