-- The root is the first node, and the nodes of paths are made path by path.
use Rattle.std.proofs.Common.{◌≡◌, ℕ, zero, suc, Bool, true, false, if◌then◌else◌, List, [], ◌∷◌, ◌++◌, Some, slice_get, refl, sym, ap, ◌∙◌}
use Rattle.std.specs.List.{list_any}
use Rattle.trace_types.specs.declared.path.Path.{Path as AttributePath}
use Rattle.attribute_tree.specs.declared.prefix.Prefix.{Prefix}
use Rattle.attribute_tree.specs.declared.prefix.Prefix.TheVariants.{Root}
use Rattle.attribute_tree.specs.Nodes.{same_prefix, prefixes_of, with_node, with_nodes, nodes_from, nodes_of, kept_nodes, rooted, children_of}

pushed : (nodes : List Prefix) (q : Prefix) → slice_get nodes 0 ≡ Some Root → slice_get (nodes ++ q ∷ []) 0 ≡ Some Root
pushed [] q h = absurd (cc)
pushed (p ∷ ps) q h = h

node : (nodes : List Prefix) (q : Prefix) → slice_get nodes 0 ≡ Some Root → slice_get (with_node nodes q) 0 ≡ Some Root
node nodes q h = by (list_any (same_prefix q) nodes)
  where
    by : (b : Bool) → slice_get (if b then nodes else nodes ++ q ∷ []) 0 ≡ Some Root
    by true = h
    by false = pushed nodes q h

several : (nodes qs : List Prefix) → slice_get nodes 0 ≡ Some Root → slice_get (with_nodes nodes qs) 0 ≡ Some Root
several nodes [] h = h
several nodes (q ∷ qs) h = several (with_node nodes q) qs (node nodes q h)

all : (nodes : List Prefix) (paths : List AttributePath) → slice_get nodes 0 ≡ Some Root → slice_get (nodes_from nodes paths) 0 ≡ Some Root
all nodes [] h = h
all nodes (p ∷ ps) h = all (with_nodes nodes (prefixes_of p)) ps (several nodes (prefixes_of p) h)

same_rooted : (nodes : List Prefix) → slice_get nodes 0 ≡ Some Root → rooted nodes ≡ nodes
same_rooted [] h = absurd (cc)
same_rooted (p ∷ ps) h = refl

pub root_is : (paths : List AttributePath) → slice_get (rooted (kept_nodes paths)) 0 ≡ Some Root
root_is [] = refl
root_is (p ∷ ps) = ap (λ l. slice_get l 0) (same_rooted (nodes_of (p ∷ ps)) (all (Root ∷ []) (p ∷ ps) refl)) ∙ all (Root ∷ []) (p ∷ ps) refl

from_push : (nodes : List Prefix) (paths : List AttributePath) (p : AttributePath) → nodes_from nodes (paths ++ p ∷ []) ≡ with_nodes (nodes_from nodes paths) (prefixes_of p)
from_push nodes [] p = refl
from_push nodes (x ∷ xs) p = from_push (with_nodes nodes (prefixes_of x)) xs p

pub kept_push : (paths : List AttributePath) (p : AttributePath) → with_nodes (rooted (kept_nodes paths)) (prefixes_of p) ≡ kept_nodes (paths ++ p ∷ [])
kept_push [] p = refl
kept_push (x ∷ xs) p = ap (λ l. with_nodes l (prefixes_of p)) (same_rooted (nodes_of (x ∷ xs)) (all (Root ∷ []) (x ∷ xs) refl)) ∙ sym (from_push (Root ∷ []) (x ∷ xs) p)

-- the root alone has no children
pub kept_children : (paths : List AttributePath) (n : ℕ) → children_of (kept_nodes paths) n ≡ children_of (nodes_of paths) n
kept_children [] zero = refl
kept_children [] (suc n) = refl
kept_children (p ∷ ps) n = refl
