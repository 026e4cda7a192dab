-- Ways up a branch, past nodes that began as late as the first of them (this project's own).
use Rattle.std.specs.Prelude.{◌≡◌, ◌≢◌, ℕ, ◌<◌, ◌≤◌, false, List, length, Option, Some, slice_index_or}
use Rattle.std.specs.List.{AllByRecursion}
use Rattle.history_nodes.specs.declared.node.Node.{Node}
use Rattle.history_nodes.specs.Nodes.{node_at}
use Rattle.history_tree.specs.Placement.{LeadUp, takes}

-- a node of these nodes that began no earlier than an instant
pub record IsLate (nodes : List Node) (start n : ℕ) : Type 0 where
  pub there : n < length nodes
  pub late : start ≤ (node_at nodes n).start

-- from a node up to what comes after it, all that are passed began no earlier than it
pub record LeadsPastLate (nodes : List Node) (low : ℕ) (next : Option ℕ) : Type 0 where
  pub begins : low < length nodes
  pub passed : List ℕ
  pub up : LeadUp nodes (Some low) passed next
  pub late : AllByRecursion (IsLate nodes (node_at nodes low).start) passed
  pub there : (n : ℕ) → next ≡ Some n → n < length nodes
  pub higher : (n : ℕ) → next ≡ Some n → (node_at nodes low).level < (node_at nodes n).level

-- the node that comes after a node and those that began with it; the node itself where none is known
abbrev pub earlier_of : List ℕ → ℕ → ℕ
earlier_of numbers n = slice_index_or numbers n n

-- so it is of each node that is known
pub record AreEarlier (nodes : List Node) (numbers : List ℕ) : Type 0 where
  pub few : length numbers ≤ length nodes
  pub each : (n : ℕ) → earlier_of numbers n ≢ n → LeadsPastLate nodes n (Some (earlier_of numbers n))

-- from a node up to what comes after it, none that are passed take an interval of this start
pub record PassesBy (nodes : List Node) (start low : ℕ) (next : Option ℕ) : Type 0 where
  pub passed : List ℕ
  pub up : LeadUp nodes (Some low) passed next
  pub fail : AllByRecursion (λ n. takes start (node_at nodes n) ≡ false) passed
  pub there : (n : ℕ) → next ≡ Some n → n < length nodes
  pub higher : (n : ℕ) → next ≡ Some n → (node_at nodes low).level < (node_at nodes n).level
