-- Where an interval goes in a tree (this project's own rule).
use Rattle.std.specs.Prelude.{◌≡◌, ℕ, zero, suc, ◌+◌, ◌-◌, max, ◌&&◌, nat_lt, nat_le, Bool, true, false, MatchBool, List, [], ◌∷◌, ◌++◌, length, Option, None, Some, slice_set}
use Rattle.std.specs.List.{AllByRecursion}
use Rattle.history_nodes.specs.declared.interval.Interval.{Interval}
use Rattle.history_nodes.specs.declared.node.Node.{Node}
use Rattle.history_nodes.specs.declared.records.TheConstants.{MAX_RECORDS}
use Rattle.history_nodes.specs.declared.children.TheConstants.{MAX_CHILDREN}
use Rattle.history_nodes.specs.Nodes.{node_at, opened, ended, adopted, with_record}
use Rattle.history_tree.specs.Tree.{NodeTree}

-- ---- up the branch
-- the numbers lead up: each is the parent of the one before, and after the last of them comes this one
abbrev pub LeadUp : List Node → Option ℕ → List ℕ → Option ℕ → Type 0
LeadUp nodes from [] to = from ≡ to
LeadUp nodes from (n ∷ ns) to = (from ≡ Some n) × LeadUp nodes (node_at nodes n).parent ns to

-- of a node and those above it the first that passes; none where none does
pub record IsFirst (test : Node → Bool) (nodes : List Node) (from found : Option ℕ) : Type 0 where
  pub passed : List ℕ
  pub up : LeadUp nodes from passed found
  pub fail : AllByRecursion (λ n. test (node_at nodes n) ≡ false) passed
  pub pass : (n : ℕ) → found ≡ Some n → test (node_at nodes n) ≡ true

-- a node with room for one more record
abbrev pub has_room : Node → Bool
has_room node = nat_lt (length node.intervals) MAX_RECORDS

-- a node with room for one more record and for one more child
abbrev pub has_rooms : Node → Bool
has_rooms node = has_room node && nat_lt (length node.children) MAX_CHILDREN

-- a node that began by this instant, with room for one more record
abbrev pub takes : ℕ → Node → Bool
takes start node = nat_le node.start start && has_room node

-- ---- what changes
-- a new root of the next level, with start 0, above the old one
abbrev pub with_root_node : ℕ → List Node → List Node
with_root_node root nodes = adopted (length nodes) root (nodes ++ opened ((node_at nodes root).level + 1) 0 ∷ [])

-- the tree with it
abbrev pub with_root : NodeTree → NodeTree
with_root t = record t { nodes = with_root_node t.root t.nodes; root = length t.nodes }

-- the tree with the node that was found: with a new root where none was found
abbrev pub tree_with : Option ℕ → NodeTree → NodeTree
tree_with None t = with_root t
tree_with (Some n) t = t

-- the number of the node that was found, or that of a new root
abbrev pub number_in : Option ℕ → List Node → ℕ
number_in None nodes = length nodes
number_in (Some n) nodes = n

-- these nodes end at this instant
abbrev pub all_ended : ℕ → List ℕ → List Node → List Node
all_ended end [] nodes = nodes
all_ended end (n ∷ ns) nodes = all_ended end ns (slice_set nodes n (ended end (node_at nodes n)))

-- one more node of a level and a start, as the last child of another
abbrev pub with_child_node : ℕ → ℕ → ℕ → List Node → List Node
with_child_node parent level start nodes = adopted parent (length nodes) (nodes ++ opened level start ∷ [])

-- a new branch below a node, of so many nodes down to a leaf: each is the last child of the one above, and begins at this instant
abbrev pub with_branch : ℕ → ℕ → ℕ → List Node → List Node
with_branch parent zero start nodes = nodes
with_branch parent (suc level) start nodes = with_branch (length nodes) level start (with_child_node parent level start nodes)

-- the nodes of these numbers end at the greatest end so far, and a new branch begins after it, below the node above them
abbrev pub renewed : List ℕ → ℕ → NodeTree → NodeTree
renewed numbers top t =
    let nodes = with_branch top (node_at t.nodes top).level (t.greatest + 1) (all_ended t.greatest numbers t.nodes) in record t { nodes = nodes; leaf = length nodes - 1 }

-- ---- the rule
-- where the leaf is full: a new branch below the first node above the leaf that has room for a record and a child, or else below a new root
pub record IsRenewal (old new : NodeTree) : Type 0 where
  pub found : Option ℕ
  pub first : IsFirst has_rooms old.nodes (node_at old.nodes old.leaf).parent found
  pub numbers : List ℕ
  pub up : LeadUp (tree_with found old).nodes (Some old.leaf) numbers (Some (number_in found old.nodes))
  pub is : new ≡ renewed numbers (number_in found old.nodes) (tree_with found old)

-- a tree whose leaf has room
abbrev pub IsReady : NodeTree → NodeTree → Type 0
IsReady old new = MatchBool (has_room (node_at old.nodes old.leaf)) (new ≡ old) (IsRenewal old new)

-- one more record in a node
abbrev pub with_put : Interval → ℕ → NodeTree → NodeTree
with_put i n t = record t { nodes = slice_set t.nodes n (with_record i (node_at t.nodes n)); greatest = max t.greatest i.end }

-- the interval goes to the first node of the latest branch, from the leaf up, that began by its start and has room, or else to a new root
pub record IsPlaced (old : NodeTree) (i : Interval) (new : NodeTree) : Type 0 where
  pub ready : NodeTree
  pub readied : IsReady old ready
  pub found : Option ℕ
  pub first : IsFirst (takes i.start) ready.nodes (Some ready.leaf) found
  pub is : new ≡ with_put i (number_in found ready.nodes) (tree_with found ready)
