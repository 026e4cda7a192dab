-- The states that a new branch goes through.
use Rattle.std.proofs.Common.{◌≡◌, ℕ, ◌+◌, ◌-◌, ◌<◌, false, List, length, Option, Some, sym, ap, ◌∙◌, subst, arith}
use Rattle.history_nodes.specs.declared.node.Node.{Node}
use Rattle.history_nodes.specs.declared.children.TheConstants.{MAX_CHILDREN}
use Rattle.history_nodes.specs.Nodes.{node_at}
use Rattle.history_tree.specs.Tree.{NodeTree, IsTree, levels_of, tree_of}
use Rattle.history_tree.specs.Placement.{LeadUp, IsFirst, has_room, has_rooms, tree_with, number_in, all_ended, with_branch, renewed, IsRenewal}
use Rattle.history_tree.proofs.Trees.{grown_tree}
use Rattle.history_tree.proofs.Placing.{CanRenew, can_renew, all_closed, renewed_is}

-- the node above a leaf is there
pub above_leaf : (t : NodeTree) → IsTree t → (n : ℕ) → (node_at t.nodes t.leaf).parent ≡ Some n → n < length t.nodes
above_leaf t h n e = (h.nested.parents t.leaf n h.latest.leaf_there e).there

-- once the node that was found, or a new root, is there
pub can_at : (t t1 : NodeTree) (found from : Option ℕ) (top : ℕ) → IsTree t → has_room (node_at t.nodes t.leaf) ≡ false → IsFirst has_rooms t.nodes from found → from ≡ (node_at t.nodes t.leaf).parent → t1 ≡ tree_with found t → top ≡ number_in found t.nodes → CanRenew t1 top (levels_of t)
can_at t t1 found from top h full first is_from is_t is_top =
    subst (λ (k : NodeTree). CanRenew k top (levels_of t)) (sym is_t) (subst (λ k. CanRenew (tree_with found t) k (levels_of t)) (sym is_top)
    (can_renew t found (grown_tree t h) full (subst (λ o. IsFirst has_rooms t.nodes o found) is_from first)))

-- once the nodes below it have ended
pub record AfterClose (t : NodeTree) (closed : List Node) (top : ℕ) : Type 0 where
  pub there : top < length closed
  pub room : length (node_at closed top).children < MAX_CHILDREN
  pub level : (node_at closed top).level ≡ (node_at t.nodes top).level

pub after_close : (t : NodeTree) (closed : List Node) (top levels : ℕ) (ns : List ℕ) → CanRenew t top levels → LeadUp t.nodes (Some t.leaf) ns (Some top) → closed ≡ all_ended t.greatest ns t.nodes → AfterClose t closed top
after_close t closed top levels ns c up is =
    let done = all_closed t top levels ns c up in
    subst (λ (k : List Node). AfterClose t k top) (sym is) (record {
      there = done.nesting.newest_there;
      room = omega (arith, ap length (done.stays.children top), c.room);
      level = done.stays.level top;
    })

-- once the new branch is there
pub is_renewal : (t t1 : NodeTree) (found from : Option ℕ) (ns : List ℕ) (top leaf : ℕ) (closed new : List Node) → IsFirst has_rooms t.nodes from found → from ≡ (node_at t.nodes t.leaf).parent → t1 ≡ tree_with found t → top ≡ number_in found t.nodes
    → LeadUp t1.nodes (Some t.leaf) ns (Some top) → closed ≡ all_ended t1.greatest ns t1.nodes → AfterClose t1 closed top → new ≡ with_branch top (node_at closed top).level (t1.greatest + 1) closed → leaf ≡ length new - 1 → IsRenewal t (tree_of new t1.root leaf t1.greatest)
is_renewal t t1 found from ns top leaf closed new first is_from is_t is_top up is_closed after is_new is_leaf = record {
  found = found;
  first = subst (λ o. IsFirst has_rooms t.nodes o found) is_from first;
  numbers = ns;
  up = subst (λ k. LeadUp (tree_with found t).nodes (Some t.leaf) ns (Some k)) is_top (subst (λ (k : NodeTree). LeadUp k.nodes (Some t.leaf) ns (Some top)) is_t up);
  is = renewed_is t1 ns top leaf closed new is_closed after.level is_new is_leaf ∙ (ap (λ k. renewed ns k t1) is_top ∙ ap (renewed ns (number_in found t.nodes)) is_t);
}
