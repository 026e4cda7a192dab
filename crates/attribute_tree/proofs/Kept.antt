-- What is kept of paths, once one more is added.
use Rattle.std.proofs.Common.{◌≡◌, ℕ, Bool, true, false, cond, if◌then◌else◌, List, [], ◌∷◌, ◌++◌, length, Option, Some, None, refl, sym, ap, ap₂, ◌∙◌, subst}
use Rattle.std.specs.Prelude.{◌||◌}
use Rattle.std.specs.List.{list_any}
use Rattle.std.proofs.lemmas.List.Folds.{list_any-append}
use Rattle.trace_types.specs.declared.path.Path.{Path as AttributePath}
use Rattle.trace_types.specs.declared.path.Path.TheVariants as path
use Rattle.trace_types.specs.declared.path.ThreadKey.TheVariants as thread
use Rattle.trace_types.specs.Same.{same_path}
use Rattle.attribute_tree.specs.declared.owner.Owner.{Owner}
use Rattle.attribute_tree.specs.declared.owner.Owner.TheVariants.{Cpu, Idle, Thread}
use Rattle.attribute_tree.specs.declared.prefix.Prefix.{Prefix}
use Rattle.attribute_tree.specs.declared.prefix.Prefix.TheVariants as front
use Rattle.attribute_tree.specs.declared.prefix.Prefix.TheVariants.{Root, Host, Cpus, Threads, Leaf}
use Rattle.attribute_tree.specs.declared.rows.Row.{Row}
use Rattle.attribute_tree.specs.Links.{LinkLists, GetsChild}
use Rattle.attribute_tree.specs.Numbered.{IsNew}
use Rattle.attribute_tree.specs.Nodes.{same_prefix, parent_of, prefixes_of, rooted, with_node, with_nodes, nodes_from, kept_nodes}
use Rattle.attribute_tree.specs.Rows.{same_owner, owner_of, number_by, node_in}
use Rattle.attribute_tree.specs.Fronts.{prefix_of, fronts_of, node_among, IsTree, HasNode, AreOwners, AreKept}
use Rattle.attribute_tree.proofs.Linked.{prefix_is}
use Rattle.attribute_tree.proofs.Numbers.{none_any, any_none, number_push, position_stands}
use Rattle.attribute_tree.proofs.Rooted.{kept_push}
use Rattle.attribute_tree.proofs.Fronts.{differ, owner_is, owner_apart, owner_root, owner_unnoted, node_other, grown_other, tree_more}

-- ---- the leaf of a new path has no node
abbrev is_leaf : Prefix → Bool
is_leaf (Leaf path) = true
is_leaf p = false

any_node : (test : Prefix → Bool) (nodes : List Prefix) (q : Prefix) → test q ≡ false → list_any test nodes ≡ false → list_any test (with_node nodes q) ≡ false
any_node test nodes q other none = by (list_any (same_prefix q) nodes)
  where
    by : (b : Bool) → list_any test (if b then nodes else nodes ++ q ∷ []) ≡ false
    by true = none
    by false = list_any-append test nodes (q ∷ []) ∙ ap₂ (λ a b. a || (b || false)) none other

leaf_front : (p : AttributePath) (q : Prefix) → is_leaf q ≡ false → same_prefix (Leaf p) q ≡ false
leaf_front p q h = differ is_leaf (Leaf p) q refl h

-- the fronts of one path are another path's leaf only where the paths are the same
any_front : (p x : AttributePath) (nodes : List Prefix) (host group owner : Prefix) → is_leaf host ≡ false → is_leaf group ≡ false → is_leaf owner ≡ false → same_path p x ≡ false → list_any (same_prefix (Leaf p)) nodes ≡ false
    → list_any (same_prefix (Leaf p)) (with_nodes nodes (host ∷ group ∷ owner ∷ Leaf x ∷ [])) ≡ false
any_front p x nodes host group owner h g o e none =
    any_node (same_prefix (Leaf p)) (with_node (with_node (with_node nodes host) group) owner) (Leaf x) e
    (any_node (same_prefix (Leaf p)) (with_node (with_node nodes host) group) owner (leaf_front p owner o)
    (any_node (same_prefix (Leaf p)) (with_node nodes host) group (leaf_front p group g) (any_node (same_prefix (Leaf p)) nodes host (leaf_front p host h) none)))

any_path : (p x : AttributePath) (nodes : List Prefix) → same_path p x ≡ false → list_any (same_prefix (Leaf p)) nodes ≡ false → list_any (same_prefix (Leaf p)) (with_nodes nodes (prefixes_of x)) ≡ false
any_path p (path.Cpu host cpu leaf) nodes e h = any_front p (path.Cpu host cpu leaf) nodes (Host host) (Cpus host) (front.Cpu host cpu) refl refl refl e h
any_path p (path.Thread host key leaf) nodes e h = any_front p (path.Thread host key leaf) nodes (Host host) (Threads host) (front.Thread host key) refl refl refl e h

any_paths : (p : AttributePath) (paths : List AttributePath) (nodes : List Prefix) → list_any (same_path p) paths ≡ false → list_any (same_prefix (Leaf p)) nodes ≡ false → list_any (same_prefix (Leaf p)) (nodes_from nodes paths) ≡ false
any_paths p [] nodes none h = h
any_paths p (x ∷ xs) nodes none h = by (same_path p x) refl none (any_paths p xs (with_nodes nodes (prefixes_of x)))
  where
    by : (b : Bool) → same_path p x ≡ b → (b || list_any (same_path p) xs) ≡ false
        → (list_any (same_path p) xs ≡ false → list_any (same_prefix (Leaf p)) (with_nodes nodes (prefixes_of x)) ≡ false → list_any (same_prefix (Leaf p)) (nodes_from (with_nodes nodes (prefixes_of x)) xs) ≡ false)
        → list_any (same_prefix (Leaf p)) (nodes_from (with_nodes nodes (prefixes_of x)) xs) ≡ false
    by true e none rest = absurd (cc)
    by false e none rest = rest none (any_path p x nodes e h)

leaf_new : (paths : List AttributePath) (p : AttributePath) → IsNew paths p → node_among (kept_nodes paths) (Leaf p) ≡ None
leaf_new [] p new = refl
leaf_new (x ∷ xs) p new = any_none (same_prefix (Leaf p)) (kept_nodes (x ∷ xs)) (any_paths p (x ∷ xs) (Root ∷ []) (none_any (same_path p) (x ∷ xs) new) refl)

-- ---- the nodes of a path are its owner's and its leaf's
path_nodes : (nodes : List Prefix) (p : AttributePath) → with_nodes nodes (prefixes_of p) ≡ with_node (with_nodes nodes (fronts_of (owner_of p))) (Leaf p)
path_nodes nodes (path.Cpu host cpu leaf) = refl
path_nodes nodes (path.Thread host (thread.Idle cpu) leaf) = refl
path_nodes nodes (path.Thread host (thread.Tid tid) leaf) = refl

leaf_parent : (p : AttributePath) → parent_of (Leaf p) ≡ Some (prefix_of (owner_of p))
leaf_parent (path.Cpu host cpu leaf) = refl
leaf_parent (path.Thread host (thread.Idle cpu) leaf) = refl
leaf_parent (path.Thread host (thread.Tid tid) leaf) = refl

owner_leaf : (o : Owner) (p : AttributePath) → same_prefix (prefix_of o) (Leaf p) ≡ false
owner_leaf (Cpu host cpu) p = refl
owner_leaf (Idle host cpu) p = refl
owner_leaf (Thread host tid) p = refl

leaf_owner : (p : AttributePath) (o : Owner) → same_prefix (Leaf p) (prefix_of o) ≡ false
leaf_owner p (Cpu host cpu) = refl
leaf_owner p (Idle host cpu) = refl
leaf_owner p (Thread host tid) = refl

module _ (rows more : Owner → Option Row) (nodes : List Prefix) (p : AttributePath) (o : Owner) (n : ℕ) (owners : AreOwners rows nodes) (node : node_among (with_nodes (rooted nodes) (fronts_of o)) (prefix_of o) ≡ Some n)
    (updates : (a : Owner) → node_in (more a) ≡ cond (same_owner o a) (Some n) (node_in (rows a))) where
  owners_grown : AreOwners more (with_node (with_nodes (rooted nodes) (fronts_of o)) (Leaf p))
  owners_grown a = updates a ∙ (by (same_owner o a) refl ∙ sym (node_other (with_nodes (rooted nodes) (fronts_of o)) (Leaf p) (prefix_of a) (owner_leaf a p)))
    where
      by : (b : Bool) → same_owner o a ≡ b → cond b (Some n) (node_in (rows a)) ≡ node_among (with_nodes (rooted nodes) (fronts_of o)) (prefix_of a)
      by true e = sym node ∙ ap (λ x. node_among (with_nodes (rooted nodes) (fronts_of o)) (prefix_of x)) (owner_is o a e)
      by false e = owners a ∙ sym (grown_other nodes o (prefix_of a) (owner_root a) (owner_unnoted a) (owner_apart o a e))

-- a new path has its number, its owner's row has the owner's node, and its leaf has a node
module _ (paths : List AttributePath) (p : AttributePath) (rows more : Owner → Option Row) (noted notes : Prefix → Option ℕ) (links grown new : LinkLists) (n : ℕ) (is_new : IsNew paths p)
    (kept : AreKept paths rows noted links)
    (made : HasNode (with_nodes (rooted (kept_nodes paths)) (fronts_of (owner_of p))) notes grown (prefix_of (owner_of p)) n)
    (child : GetsChild grown new n)
    (numbers : (q : AttributePath) → number_by more q ≡ cond (same_path p q) (Some (length paths)) (number_by rows q))
    (nodes : (a : Owner) → node_in (more a) ≡ cond (same_owner (owner_of p) a) (Some n) (node_in (rows a))) where
  all_nodes : with_node (with_nodes (rooted (kept_nodes paths)) (fronts_of (owner_of p))) (Leaf p) ≡ kept_nodes (paths ++ p ∷ [])
  all_nodes = sym (path_nodes (rooted (kept_nodes paths)) p) ∙ kept_push paths p

  pub kept_more : AreKept (paths ++ p ∷ []) more notes new
  kept_more =
      let o = owner_of p in
      let above = with_nodes (rooted (kept_nodes paths)) (fronts_of o) in
      let none = grown_other (kept_nodes paths) o (Leaf p) refl refl (leaf_owner p o) ∙ leaf_new paths p is_new in
      let stands = position_stands same_prefix prefix_is above (prefix_of o) n made.number in
      record {
        numbers = λ q. numbers q ∙ (ap (cond (same_path p q) (Some (length paths))) (kept.numbers q) ∙ sym (number_push paths p q is_new));
        owners = subst (AreOwners more) all_nodes (owners_grown rows more (kept_nodes paths) p o n kept.owners made.number nodes);
        tree = subst (λ ns. IsTree ns notes new) all_nodes (tree_more above notes grown new made.tree (Leaf p) (prefix_of o) n (leaf_parent p) stands none child refl);
      }
