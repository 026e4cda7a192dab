-- The tree of a history's nodes (after Trace Compass's history tree; its limits are this project's own).
use Rattle.std.specs.Prelude.{◌≡◌, ◌≢◌, ◌⊎◌, ◌↔◌, ℕ, ◌+◌, ◌<◌, ◌≤◌, List, [], ◌∷◌, length, None, Some}
use Rattle.std.specs.List.{AllByRecursion}
use Rattle.trace_types.specs.declared.limits.TheConstants.{TIME_END}
use Rattle.history_nodes.specs.declared.interval.Interval.{Interval}
use Rattle.history_nodes.specs.declared.node.Node.{Node}
use Rattle.history_nodes.specs.declared.records.TheConstants.{MAX_RECORDS}
use Rattle.history_nodes.specs.declared.children.TheConstants.{MAX_CHILDREN}
use Rattle.history_nodes.specs.Nodes.{node_at, end_of}
use Rattle.history_tree.specs.Records.{records_of, AreApart}

-- what contracts see of a tree: its nodes by number, the numbers of the root and of the newest leaf, and the greatest end of its records
pub record NodeTree : Type 0 where
  pub nodes : List Node
  pub root : ℕ
  pub leaf : ℕ
  pub greatest : ℕ

-- the tree of these parts
abbrev pub tree_of : List Node → ℕ → ℕ → ℕ → NodeTree
tree_of nodes root leaf greatest = record { nodes = nodes; root = root; leaf = leaf; greatest = greatest }

-- how many levels a tree has
abbrev pub levels_of : NodeTree → ℕ
levels_of t = (node_at t.nodes t.root).level + 1

-- the number is among these
abbrev pub IsAmong : ℕ → List ℕ → Type 0
IsAmong n [] = ⊥
IsAmong n (c ∷ cs) = (c ≡ n) ⊎ IsAmong n cs

-- the number is the last of these
abbrev pub IsLast : ℕ → List ℕ → Type 0
IsLast n [] = ⊥
IsLast n (c ∷ []) = c ≡ n
IsLast n (c ∷ d ∷ cs) = IsLast n (d ∷ cs)

-- the ranges of these nodes are adjacent, in order, and reach from an instant to the one before another
abbrev pub AreAdjacent : List Node → ℕ → List ℕ → ℕ → Type 0
AreAdjacent nodes from [] to = from ≡ to
AreAdjacent nodes from (c ∷ cs) to = ((node_at nodes c).start ≡ from) × AreAdjacent nodes (end_of (node_at nodes c) + 1) cs to

-- the node's range holds the interval
pub record IsInside (node : Node) (i : Interval) : Type 0 where
  pub begins : node.start ≤ i.start
  pub ends : i.end ≤ end_of node

-- a child names its parent, and its level is one less
pub record IsChild (nodes : List Node) (parent child : ℕ) : Type 0 where
  pub there : child < length nodes
  pub names : (node_at nodes child).parent ≡ Some parent
  pub level : (node_at nodes child).level + 1 ≡ (node_at nodes parent).level

-- a parent names its child
pub record IsParent (nodes : List Node) (parent child : ℕ) : Type 0 where
  pub there : parent < length nodes
  pub names : IsAmong child (node_at nodes parent).children

-- a node has few records and children, and its range holds its records, of which none ends after this instant
pub record IsFilled (greatest : ℕ) (node : Node) : Type 0 where
  pub few_records : length node.intervals ≤ MAX_RECORDS
  pub few_children : length node.children ≤ MAX_CHILDREN
  pub inside : AllByRecursion (IsInside node) node.intervals
  pub ends : AllByRecursion (λ i. i.end ≤ greatest) node.intervals

-- each node is filled so, and no two records of one number have an instant in common, in one node or in two
pub record AreFilled (nodes : List Node) (greatest : ℕ) : Type 0 where
  pub each : AllByRecursion (IsFilled greatest) nodes
  pub apart : AreApart (records_of nodes)

-- each node but the root has a parent, and the children's ranges are adjacent and together the parent's
pub record AreNested (nodes : List Node) (root : ℕ) : Type 0 where
  pub leaves : (n : ℕ) → n < length nodes → (node_at nodes n).level ≡ 0 → (node_at nodes n).children ≡ []
  pub inner : (n : ℕ) → n < length nodes → 0 < (node_at nodes n).level → (node_at nodes n).children ≢ []
  pub children : (n c : ℕ) → n < length nodes → IsAmong c (node_at nodes n).children → IsChild nodes n c
  pub parents : (n p : ℕ) → n < length nodes → (node_at nodes n).parent ≡ Some p → IsParent nodes p n
  pub ranges : (n : ℕ) → n < length nodes → 0 < (node_at nodes n).level → AreAdjacent nodes (node_at nodes n).start (node_at nodes n).children (end_of (node_at nodes n) + 1)
  pub ordered : (n : ℕ) → n < length nodes → (node_at nodes n).start ≤ end_of (node_at nodes n)
  pub root_there : root < length nodes
  pub root_alone : (n : ℕ) → n < length nodes → ((node_at nodes n).parent ≡ None) ↔ (n ≡ root)
  pub root_first : (node_at nodes root).start ≡ 0
  pub root_highest : (n : ℕ) → n < length nodes → n ≢ root → (node_at nodes n).level < (node_at nodes root).level
  pub few_levels : (node_at nodes root).level < length nodes

-- the nodes that have no end are the latest branch: the root, of each of them the last child, and so on to the newest leaf; the others ended when the greatest end was this one or less
pub record IsLatestBranch (nodes : List Node) (root leaf greatest : ℕ) : Type 0 where
  pub root_open : (node_at nodes root).end ≡ None
  pub unended : (n p : ℕ) → n < length nodes → (node_at nodes n).parent ≡ Some p → ((node_at nodes n).end ≡ None) ↔ (((node_at nodes p).end ≡ None) × IsLast n (node_at nodes p).children)
  pub closed : (n e : ℕ) → n < length nodes → (node_at nodes n).end ≡ Some e → e ≤ greatest
  pub leaf_there : leaf < length nodes
  pub leaf_open : (node_at nodes leaf).end ≡ None
  pub leaf_level : (node_at nodes leaf).level ≡ 0

-- a tree of nodes, as each tree is
pub record IsTree (t : NodeTree) : Type 0 where
  pub filled : AreFilled t.nodes t.greatest
  pub nested : AreNested t.nodes t.root
  pub latest : IsLatestBranch t.nodes t.root t.leaf t.greatest
  pub followed : t.greatest + 1 < TIME_END
