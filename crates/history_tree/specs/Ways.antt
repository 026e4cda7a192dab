-- The way from the root to the leaf whose range holds an instant.
use Rattle.std.specs.Prelude.{◌≡◌, ℕ, zero, suc, ◌+◌, true, ◌<◌, length, List, [], ◌∷◌, Option, None, Some, find}
use Rattle.history_nodes.specs.declared.node.Node.{Node}
use Rattle.history_nodes.specs.Nodes.{node_at, holds}
use Rattle.history_tree.specs.Tree.{NodeTree, IsAmong}

-- each number is a child of the one before, and its range holds the instant; the last is a leaf's
abbrev pub LeadDown : List Node → ℕ → ℕ → List ℕ → Type 0
LeadDown nodes t n [] = (node_at nodes n).level ≡ 0
LeadDown nodes t n (c ∷ cs) = IsAmong c (node_at nodes n).children × (holds t (node_at nodes c) ≡ true) × LeadDown nodes t c cs

-- the way of an instant: from the root down to a leaf
abbrev pub IsWay : NodeTree → ℕ → List ℕ → Type 0
IsWay tree t [] = ⊥
IsWay tree t (n ∷ ns) = (n ≡ tree.root) × LeadDown tree.nodes t n ns

-- the first child of a node whose range holds the instant
abbrev pub child_of : List Node → ℕ → ℕ → Option ℕ
child_of nodes t n = find (λ c. holds t (node_at nodes c)) (node_at nodes n).children

-- the numbers that are still to come from a node on, at most so many levels further down
abbrev pub way_from : List Node → ℕ → ℕ → Option ℕ → List ℕ
way_from nodes t levels None = []
way_from nodes t zero (Some n) = n ∷ []
way_from nodes t (suc levels) (Some n) = n ∷ way_from nodes t levels (child_of nodes t n)

-- of no node, or of a node and what its level lets come after it
abbrev pub way_on : List Node → ℕ → Option ℕ → List ℕ
way_on nodes t None = []
way_on nodes t (Some n) = way_from nodes t (node_at nodes n).level (Some n)

-- a child is one level lower, and a leaf has none
pub record IsBelow (nodes : List Node) (high low : ℕ) : Type 0 where
  pub there : low < length nodes
  pub level : (node_at nodes low).level + 1 ≡ (node_at nodes high).level

-- so it is of all nodes
pub record AreDescended (nodes : List Node) : Type 0 where
  pub children : (n c : ℕ) → n < length nodes → IsAmong c (node_at nodes n).children → IsBelow nodes n c
  pub leaves : (n : ℕ) → n < length nodes → (node_at nodes n).level ≡ 0 → (node_at nodes n).children ≡ []

-- the next node is there
pub record CanVisit (nodes : List Node) (next : Option ℕ) : Type 0 where
  pub descended : AreDescended nodes
  pub there : (n : ℕ) → next ≡ Some n → n < length nodes
