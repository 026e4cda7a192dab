-- What steps up a branch stand on.
use Rattle.std.specs.Prelude.{◌≡◌, ℕ, ◌+◌, ◌<◌, List, [], ◌∷◌, length, None, Some}
use Rattle.history_nodes.specs.declared.node.Node.{Node}
use Rattle.history_nodes.specs.Nodes.{node_at}
use Rattle.history_tree.specs.Tree.{IsAmong}

-- a node that is one level higher
pub record IsAbove (nodes : List Node) (low high : ℕ) : Type 0 where
  pub there : high < length nodes
  pub level : (node_at nodes high).level ≡ (node_at nodes low).level + 1

-- each parent is one level higher, and there are fewer levels than nodes
pub record AreClimbed (nodes : List Node) : Type 0 where
  pub parents : (n p : ℕ) → n < length nodes → (node_at nodes n).parent ≡ Some p → IsAbove nodes n p
  pub few : (n : ℕ) → n < length nodes → (node_at nodes n).level < length nodes

-- these nodes have no end yet, and differ from one another
abbrev pub AreOpen : List Node → List ℕ → Type 0
AreOpen nodes [] = Unit {0}
AreOpen nodes (n ∷ ns) = (n < length nodes) × ((node_at nodes n).end ≡ None) × (IsAmong n ns → ⊥) × AreOpen nodes ns
