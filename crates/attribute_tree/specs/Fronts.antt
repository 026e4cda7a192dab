-- The fronts above leaves, and which of them have their nodes noted where (this project's own).
use Rattle.std.specs.Prelude.{◌≡◌, ℕ, Bool, false, true, List, [], ◌∷◌, Option, Some, position}
use Rattle.trace_types.specs.declared.path.Path.{Path as AttributePath}
use Rattle.trace_types.specs.declared.path.ThreadKey.TheVariants.{Idle, Tid}
use Rattle.attribute_tree.specs.declared.owner.Owner.{Owner}
use Rattle.attribute_tree.specs.declared.owner.Owner.TheVariants as owner
use Rattle.attribute_tree.specs.declared.prefix.Prefix.{Prefix}
use Rattle.attribute_tree.specs.declared.prefix.Prefix.TheVariants.{Root, Host, Cpus, Threads, Cpu, Thread, Leaf}
use Rattle.attribute_tree.specs.declared.rows.Row.{Row}
use Rattle.attribute_tree.specs.Links.{LinkLists}
use Rattle.attribute_tree.specs.Nodes.{same_prefix, kept_nodes, AreLinked}
use Rattle.attribute_tree.specs.Rows.{node_in, AreRows}

-- the front of a processor or a thread
abbrev pub prefix_of : Owner → Prefix
prefix_of (owner.Cpu host cpu) = Cpu host cpu
prefix_of (owner.Idle host cpu) = Thread host (Idle cpu)
prefix_of (owner.Thread host tid) = Thread host (Tid tid)

-- the front of its host
abbrev pub host_of : Owner → Prefix
host_of (owner.Cpu host cpu) = Host host
host_of (owner.Idle host cpu) = Host host
host_of (owner.Thread host tid) = Host host

-- the front of all processors or all threads of its host
abbrev pub group_of : Owner → Prefix
group_of (owner.Cpu host cpu) = Cpus host
group_of (owner.Idle host cpu) = Threads host
group_of (owner.Thread host tid) = Threads host

-- the fronts of a processor or a thread, the shortest first
abbrev pub fronts_of : Owner → List Prefix
fronts_of o = host_of o ∷ group_of o ∷ prefix_of o ∷ []

-- whether a front is of a host, or of all its processors or all its threads
abbrev pub is_group : Prefix → Bool
is_group Root = false
is_group (Host host) = true
is_group (Cpus host) = true
is_group (Threads host) = true
is_group (Cpu host cpu) = false
is_group (Thread host thread) = false
is_group (Leaf path) = false

-- the number of a front's node, and none where it has no node
abbrev pub node_among : List Prefix → Prefix → Option ℕ
node_among nodes p = position (same_prefix p) nodes

-- the links are those of the nodes, and the node of each group is noted
pub record IsTree (nodes : List Prefix) (noted : Prefix → Option ℕ) (links : LinkLists) : Type 0 where
  pub linked : AreLinked nodes links.first links.last links.next
  pub groups : (p : Prefix) → is_group p ≡ true → noted p ≡ node_among nodes p

-- the same, and a front has this node
pub record HasNode (nodes : List Prefix) (noted : Prefix → Option ℕ) (links : LinkLists) (p : Prefix) (node : ℕ) : Type 0 where
  pub tree : IsTree nodes noted links
  pub number : node_among nodes p ≡ Some node

-- the rows have the node of each processor and thread, and there is no row without a node
abbrev pub AreOwners : (Owner → Option Row) → List Prefix → Type 0
AreOwners rows nodes = (o : Owner) → node_in (rows o) ≡ node_among nodes (prefix_of o)

-- what is kept of paths: their numbers and nodes
pub record AreKept (paths : List AttributePath) (rows : Owner → Option Row) (noted : Prefix → Option ℕ) (links : LinkLists) : Type 0 where
  pub numbers : AreRows rows paths
  pub owners : AreOwners rows (kept_nodes paths)
  pub tree : IsTree (kept_nodes paths) noted links
