-- How many parents stand above each host.
use Rattle.std.specs.Prelude.{ℕ, ◌≡◌, Some, List, length, slice_get}
use Rattle.host_tree.specs.declared.parent.Parent.{Parent}
use Rattle.host_tree.specs.Rooted.{IsAtDepth}

-- so many parents stand above each host, up to the root of its tree
pub record AreDepths (parents : List Parent) (depths : List ℕ) : Type 0 where
  pub count : length depths ≡ length parents
  pub each : (host depth : ℕ) → slice_get depths host ≡ Some depth → IsAtDepth parents depth host
