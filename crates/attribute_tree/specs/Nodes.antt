-- The tree of attributes: a node for each front of a path, numbered in the order in which they were made (after Trace Compass's attribute tree).
use Rattle.std.specs.Prelude.{◌≡◌, ℕ, zero, suc, Bool, false, true, if◌then◌else◌, List, [], ◌∷◌, ◌++◌, Option, None, Some, slice_get, slice_set, map}
use Rattle.std.specs.List.{list_any, AllByRecursion, IsDistinct}
use Rattle.trace_types.specs.declared.path.Path.{Path as AttributePath}
use Rattle.trace_types.specs.declared.path.Path.TheVariants as path
use Rattle.attribute_tree.specs.declared.prefix.Prefix.{Prefix}
use Rattle.attribute_tree.specs.declared.prefix.Prefix.TheVariants.{Root, Host, Cpus, Threads, Cpu, Thread, Leaf}
use Rattle.attribute_tree.specs.contracts.prefix.PrefixPartialEq.TheImpl as prefix

-- the comparison that fronts derive, which tells all of them apart
abbrev pub same_prefix : Prefix → Prefix → Bool
same_prefix = prefix.ghosts.eq

-- the fronts of a path of one to four segments, the shortest first
abbrev pub prefixes_of : AttributePath → List Prefix
prefixes_of (path.Cpu host cpu leaf) = Host host ∷ Cpus host ∷ Cpu host cpu ∷ Leaf (path.Cpu host cpu leaf) ∷ []
prefixes_of (path.Thread host thread leaf) = Host host ∷ Threads host ∷ Thread host thread ∷ Leaf (path.Thread host thread leaf) ∷ []

-- the front that is one segment shorter; the empty one has none
abbrev pub parent_of : Prefix → Option Prefix
parent_of Root = None
parent_of (Host host) = Some Root
parent_of (Cpus host) = Some (Host host)
parent_of (Threads host) = Some (Host host)
parent_of (Cpu host cpu) = Some (Cpus host)
parent_of (Thread host thread) = Some (Threads host)
parent_of (Leaf (path.Cpu host cpu leaf)) = Some (Cpu host cpu)
parent_of (Leaf (path.Thread host thread leaf)) = Some (Thread host thread)

-- a front that has no node yet gets the next number
abbrev pub with_node : List Prefix → Prefix → List Prefix
with_node nodes p = if list_any (same_prefix p) nodes then nodes else nodes ++ p ∷ []

-- the nodes once each of these fronts has one
abbrev pub with_nodes : List Prefix → List Prefix → List Prefix
with_nodes nodes [] = nodes
with_nodes nodes (p ∷ ps) = with_nodes (with_node nodes p) ps

-- nodes, and then those that each path makes
abbrev pub nodes_from : List Prefix → List AttributePath → List Prefix
nodes_from nodes [] = nodes
nodes_from nodes (p ∷ ps) = nodes_from (with_nodes nodes (prefixes_of p)) ps

-- the nodes of paths: the root, and then those that each path makes
abbrev pub nodes_of : List AttributePath → List Prefix
nodes_of paths = nodes_from (Root ∷ []) paths

-- whether there is a front and it is this one
abbrev pub is_some_prefix : Option Prefix → Prefix → Bool
is_some_prefix None p = false
is_some_prefix (Some q) p = same_prefix q p

-- whether the second front is a child of the first
abbrev pub is_child : Prefix → Prefix → Bool
is_child p q = is_some_prefix (parent_of q) p

-- the numbers of the nodes that pass, counted from k
abbrev pub places : (Prefix → Bool) → ℕ → List Prefix → List ℕ
places test k [] = []
places test k (p ∷ ps) = if test p then k ∷ places test (suc k) ps else places test (suc k) ps

-- the children of a front, in the order of their making, and of no front none
abbrev pub children_at : List Prefix → Option Prefix → List ℕ
children_at nodes None = []
children_at nodes (Some p) = places (is_child p) 0 nodes

-- the children of a node, in the order of their making
abbrev pub children_of : List Prefix → ℕ → List ℕ
children_of nodes n = children_at nodes (slice_get nodes n)

-- the first of some numbers, if there is one
abbrev pub first_of : List ℕ → Option ℕ
first_of [] = None
first_of (n ∷ ns) = Some n

-- the last of some numbers, and where there is none what came before them
abbrev pub last_from : Option ℕ → List ℕ → Option ℕ
last_from o [] = o
last_from o (n ∷ ns) = last_from (Some n) ns

-- whether a front has this parent
abbrev pub is_sibling_by : Option Prefix → Prefix → Bool
is_sibling_by None q = false
is_sibling_by (Some r) q = is_child r q

-- whether the second front has the parent of the first
abbrev pub is_sibling : Prefix → Prefix → Bool
is_sibling p q = is_sibling_by (parent_of p) q

-- the first child of each node
abbrev pub firsts : List Prefix → List (Option ℕ)
firsts nodes = map (λ p. first_of (places (is_child p) 0 nodes)) nodes

-- the last child of each node
abbrev pub lasts : List Prefix → List (Option ℕ)
lasts nodes = map (λ p. last_from None (places (is_child p) 0 nodes)) nodes

-- the next sibling of each node, where these nodes are numbered from k
abbrev pub nexts : ℕ → List Prefix → List (Option ℕ)
nexts k [] = []
nexts k (p ∷ ps) = first_of (places (is_sibling p) (suc k) ps) ∷ nexts (suc k) ps

-- the siblings of a node that were made after it
abbrev pub siblings_at : ℕ → ℕ → List Prefix → List ℕ
siblings_at k n [] = []
siblings_at k zero (p ∷ ps) = places (is_sibling p) (suc k) ps
siblings_at k (suc n) (p ∷ ps) = siblings_at (suc k) n ps

-- a node and its later siblings
abbrev pub rest_from : List Prefix → Option ℕ → List ℕ
rest_from nodes None = []
rest_from nodes (Some n) = n ∷ siblings_at 0 n nodes

-- the next siblings, where the last child so far gets one
abbrev pub with_next : List (Option ℕ) → Option ℕ → ℕ → List (Option ℕ)
with_next ns None m = ns
with_next ns (Some l) m = slice_set ns l (Some m)

-- a front has a node, or there is no such front
abbrev pub IsHeld : List Prefix → Option Prefix → Type 0
IsHeld nodes None = Unit {0}
IsHeld nodes (Some r) = list_any (same_prefix r) nodes ≡ true

-- each node's parent has a node, too
abbrev pub AreHeld : List Prefix → Type 0
AreHeld nodes = AllByRecursion (λ p. IsHeld nodes (parent_of p)) nodes

-- the links are those of the nodes, which differ from one another
pub record AreLinked (nodes : List Prefix) (f l n : List (Option ℕ)) : Type 0 where
  pub first : f ≡ firsts nodes
  pub last : l ≡ lasts nodes
  pub next : n ≡ nexts 0 nodes
  pub distinct : IsDistinct same_prefix nodes
  pub held : AreHeld nodes

-- the nodes that are kept: none before the first path, and then those of the paths
abbrev pub kept_nodes : List AttributePath → List Prefix
kept_nodes [] = []
kept_nodes (p ∷ ps) = nodes_of (p ∷ ps)

-- the nodes with the root, where there was none
abbrev pub rooted : List Prefix → List Prefix
rooted [] = Root ∷ []
rooted (p ∷ ps) = p ∷ ps
