use Rattle.std.proofs.Common.{◌≡◌, ℕ, ◌≤◌, length, slice_get}
use Rattle.std.specs.List.{flat_map}
use Rattle.host_merge.specs.Lists.{AreTimed, sorted_at}
use Rattle.host_merge.specs.Merge.{roots_below}
use Rattle.host_merge.proofs.merging.join_roots.Given as goal

abbrev pub invariant-loop-host : goal.invariant-loop-host
invariant-loop-host l =
    (length l.lists.items ≡ length l.fn.lists.items) × ((k : ℕ) → l.host ≤ k → slice_get l.lists.items k ≡ slice_get l.fn.lists.items k)
    × (l.whole ≡ flat_map (sorted_at l.fn.lists.items) (roots_below l.forest.items l.host)) × AreTimed l.whole
