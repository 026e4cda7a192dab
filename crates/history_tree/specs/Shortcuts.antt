-- Shortcuts up a branch, past full nodes (this project's own).
use Rattle.std.specs.Prelude.{◌≡◌, ◌≢◌, ◌⊎◌, ℕ, ◌<◌, ◌≤◌, false, true, List, length, None, Some, slice_index_or}
use Rattle.std.specs.List.{AllByRecursion}
use Rattle.history_nodes.specs.declared.node.Node.{Node}
use Rattle.history_nodes.specs.Nodes.{node_at}
use Rattle.history_tree.specs.Placement.{LeadUp, has_room}

-- from a node up to another all that are passed are full
pub record LeadsPast (nodes : List Node) (low high : ℕ) : Type 0 where
  pub begins : low < length nodes
  pub there : high < length nodes
  pub level : (node_at nodes low).level ≤ (node_at nodes high).level
  pub passed : List ℕ
  pub up : LeadUp nodes (Some low) passed (Some high)
  pub full : AllByRecursion (λ n. has_room (node_at nodes n) ≡ false) passed

-- the same, up to a node of a higher level
pub record IsShortcut (nodes : List Node) (low high : ℕ) : Type 0 where
  pub past : LeadsPast nodes low high
  pub higher : (node_at nodes low).level < (node_at nodes high).level

-- a climb past full nodes ends at this node: it has room, or nothing is above it
abbrev pub EndsClimb : List Node → ℕ → Type 0
EndsClimb nodes n = (has_room (node_at nodes n) ≡ true) ⊎ ((node_at nodes n).parent ≡ None)

-- the node that a node's shortcut leads to; the node itself where it has none
abbrev pub shortcut_of : List ℕ → ℕ → ℕ
shortcut_of shortcuts n = slice_index_or shortcuts n n

-- each is a shortcut of the node of its number
pub record AreShortcuts (nodes : List Node) (shortcuts : List ℕ) : Type 0 where
  pub each : (n : ℕ) → shortcut_of shortcuts n ≢ n → IsShortcut nodes n (shortcut_of shortcuts n)

-- at most the shortcut of one node has changed, and leads to another one now
pub record IsShortened (low high : ℕ) (old new : List ℕ) : Type 0 where
  pub each : (n : ℕ) → (shortcut_of new n ≡ shortcut_of old n) ⊎ ((n ≡ low) × (shortcut_of new n ≡ high))

-- each node keeps its shortcut
pub record HaveSameShortcuts (old new : List ℕ) : Type 0 where
  pub each : (n : ℕ) → shortcut_of new n ≡ shortcut_of old n
