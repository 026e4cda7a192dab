-- Nodes by number (after the nodes of Trace Compass's history tree).
use Rattle.std.specs.Prelude.{ℕ, ◌-◌, ◌&&◌, nat_le, Bool, List, [], ◌∷◌, ◌++◌, None, Some, unwrap_or, slice_index_or, slice_set}
use Rattle.trace_types.specs.declared.limits.TheConstants.{TIME_END}
use Rattle.history_nodes.specs.declared.interval.Interval.{Interval}
use Rattle.history_nodes.specs.declared.node.Node.{Node}
use Rattle.history_nodes.specs.declared.node.Shape.{Shape}

-- what contracts see of nodes: their list, and how many more there is room for
pub record NodeList : Type 0 where
  pub nodes : List Node
  pub spare : ℕ

-- a node of this level that begins at this instant and has no end, no parent, no records and no children yet
abbrev pub opened : ℕ → ℕ → Node
opened level start = record { parent = None; level = level; start = start; end = None; intervals = []; children = [] }

-- the node of a number; one that isn't there counts as a new leaf
abbrev pub node_at : List Node → ℕ → Node
node_at nodes number = slice_index_or nodes number (opened 0 0)

-- the last instant of a node's range: its end, or the last one of all times
abbrev pub end_of : Node → ℕ
end_of node = unwrap_or node.end (TIME_END - 1)

-- the node's range holds the instant
abbrev pub holds : ℕ → Node → Bool
holds t node = nat_le node.start t && nat_le t (end_of node)

-- a node without its records and its children
abbrev pub shape_of : Node → Shape
shape_of node = record { parent = node.parent; level = node.level; start = node.start; end = node.end }

-- a node with one more record
abbrev pub with_record : Interval → Node → Node
with_record interval node = record node { intervals = node.intervals ++ interval ∷ [] }

-- a node with one more child
abbrev pub with_child : ℕ → Node → Node
with_child child node = record node { children = node.children ++ child ∷ [] }

-- a node with a parent
abbrev pub with_parent : ℕ → Node → Node
with_parent parent node = record node { parent = Some parent }

-- a node with an end
abbrev pub ended : ℕ → Node → Node
ended end node = record node { end = Some end }

-- nodes of which one became the last child of another
abbrev pub adopted : ℕ → ℕ → List Node → List Node
adopted parent child nodes =
    let grown = slice_set nodes parent (with_child child (node_at nodes parent)) in slice_set grown child (with_parent parent (node_at grown child))
