-- What nodes keep while a tree grows.
use Rattle.std.proofs.Common.{◌≡◌, ◌≢◌, ℕ, zero, suc, ◌+◌, ◌<◌, ◌≤◌, Bool, true, false, MatchBool, List, [], ◌∷◌, ◌++◌, length, Option, None, Some, refl, sym, ap, ◌∙◌, subst, arith, set, length-set, length-append}
use Rattle.history_nodes.specs.declared.node.Node.{Node}
use Rattle.history_nodes.specs.Nodes.{node_at, opened, ended, adopted, with_child, with_parent}
use Rattle.history_tree.specs.Tree.{NodeTree}
use Rattle.history_tree.specs.Placement.{has_room, with_root_node, tree_with, all_ended, with_child_node, with_branch, renewed, IsRenewal, IsReady}
use Rattle.history_tree.proofs.Steps.{at_front, at_other, at_pushed}
use Rattle.history_tree.proofs.Trees.{IsGrown}

-- nodes keep their records, and those that were there their levels, starts and parents
pub record Keeps (old new : List Node) : Type 0 where
  pub len : length old ≤ length new
  pub records : (n : ℕ) → (node_at new n).intervals ≡ (node_at old n).intervals
  pub level : (n : ℕ) → n < length old → (node_at new n).level ≡ (node_at old n).level
  pub start : (n : ℕ) → n < length old → (node_at new n).start ≡ (node_at old n).start
  pub parent : (n p : ℕ) → n < length old → (node_at old n).parent ≡ Some p → (node_at new n).parent ≡ Some p

pub keeps_all : (nodes : List Node) → Keeps nodes nodes
keeps_all nodes = record { len = omega arith; records = λ n. refl; level = λ n there. refl; start = λ n there. refl; parent = λ n p there e. e }

pub keeps_both : (a b c : List Node) → Keeps a b → Keeps b c → Keeps a c
keeps_both a b c f g = record {
  len = omega (arith, f.len, g.len);
  records = λ n. g.records n ∙ f.records n;
  level = λ n there. g.level n (omega (arith, f.len)) ∙ f.level n there;
  start = λ n there. g.start n (omega (arith, f.len)) ∙ f.start n there;
  parent = λ n p there e. g.parent n p (omega (arith, f.len)) (f.parent n p there e);
}

-- where a node changes, what it keeps is kept
pub kept_set : {A : Type 0} (f : Node → A) (nodes : List Node) (k : ℕ) (x : Node) → f x ≡ f (node_at nodes k) → (n : ℕ) → f (node_at (set nodes k x) n) ≡ f (node_at nodes n)
kept_set f [] k x e n = refl
kept_set f (y ∷ ys) zero x e zero = e
kept_set f (y ∷ ys) zero x e (suc n) = refl
kept_set f (y ∷ ys) (suc k) x e zero = refl
kept_set f (y ∷ ys) (suc k) x e (suc n) = kept_set f ys k x e n

records_pushed : (nodes : List Node) (level start n : ℕ) → (node_at (nodes ++ opened level start ∷ []) n).intervals ≡ (node_at nodes n).intervals
records_pushed [] level start zero = refl
records_pushed [] level start (suc n) = refl
records_pushed (y ∷ ys) level start zero = refl
records_pushed (y ∷ ys) level start (suc n) = records_pushed ys level start n

keeps_ended : (nodes : List Node) (k end : ℕ) → Keeps nodes (set nodes k (ended end (node_at nodes k)))
keeps_ended nodes k end =
    let x = ended end (node_at nodes k) in
    record {
      len = omega (arith, length-set nodes k x);
      records = kept_set (λ (y : Node). y.intervals) nodes k x refl;
      level = λ n there. kept_set (λ (y : Node). y.level) nodes k x refl n;
      start = λ n there. kept_set (λ (y : Node). y.start) nodes k x refl n;
      parent = λ n p there e. kept_set (λ (y : Node). y.parent) nodes k x refl n ∙ e;
    }

keeps_pushed : (nodes : List Node) (level start : ℕ) → Keeps nodes (nodes ++ opened level start ∷ [])
keeps_pushed nodes level start = record {
  len = omega (arith, length-append nodes (opened level start ∷ []));
  records = records_pushed nodes level start;
  level = λ n there. ap (λ (y : Node). y.level) (at_front nodes (opened level start) n there);
  start = λ n there. ap (λ (y : Node). y.start) (at_front nodes (opened level start) n there);
  parent = λ n p there e. ap (λ (y : Node). y.parent) (at_front nodes (opened level start) n there) ∙ e;
}

keeps_adopted : (parent child : ℕ) (nodes : List Node) → (node_at nodes child).parent ≡ None → Keeps nodes (adopted parent child nodes)
keeps_adopted parent child nodes orphan =
    let x = with_child child (node_at nodes parent) in
    let grown = set nodes parent x in
    let y = with_parent parent (node_at grown child) in
    record {
      len = omega (arith, length-set nodes parent x, length-set grown child y);
      records = λ n. kept_set (λ (z : Node). z.intervals) grown child y refl n ∙ kept_set (λ (z : Node). z.intervals) nodes parent x refl n;
      level = λ n there. kept_set (λ (z : Node). z.level) grown child y refl n ∙ kept_set (λ (z : Node). z.level) nodes parent x refl n;
      start = λ n there. kept_set (λ (z : Node). z.start) grown child y refl n ∙ kept_set (λ (z : Node). z.start) nodes parent x refl n;
      parent = λ n p there e. ap (λ (z : Node). z.parent) (at_other grown child n y (differs n p e)) ∙ (kept_set (λ (z : Node). z.parent) nodes parent x refl n ∙ e);
    }
  where
    differs : (n p : ℕ) → (node_at nodes n).parent ≡ Some p → n ≢ child
    differs n p e is = let both : None ≡ Some p = sym orphan ∙ (ap (λ k. (node_at nodes k).parent) (sym is) ∙ e) in absurd (cc)

keeps_child : (parent level start : ℕ) (nodes : List Node) → Keeps nodes (with_child_node parent level start nodes)
keeps_child parent level start nodes =
    let pushed = nodes ++ opened level start ∷ [] in
    keeps_both nodes pushed (with_child_node parent level start nodes) (keeps_pushed nodes level start) (keeps_adopted parent (length nodes) pushed (ap (λ (y : Node). y.parent) (at_pushed nodes (opened level start))))

keeps_root : (root : ℕ) (nodes : List Node) → root < length nodes → (node_at nodes root).parent ≡ None → Keeps nodes (with_root_node root nodes)
keeps_root root nodes there alone =
    let x = opened ((node_at nodes root).level + 1) 0 in
    let pushed = nodes ++ x ∷ [] in
    keeps_both nodes pushed (with_root_node root nodes) (keeps_pushed nodes ((node_at nodes root).level + 1) 0) (keeps_adopted (length nodes) root pushed (ap (λ (y : Node). y.parent) (at_front nodes x root there) ∙ alone))

keeps_all_ended : (end : ℕ) (ns : List ℕ) (nodes : List Node) → Keeps nodes (all_ended end ns nodes)
keeps_all_ended end [] nodes = keeps_all nodes
keeps_all_ended end (n ∷ ns) nodes =
    let next = set nodes n (ended end (node_at nodes n)) in
    keeps_both nodes next (all_ended end ns next) (keeps_ended nodes n end) (keeps_all_ended end ns next)

keeps_branch : (level parent start : ℕ) (nodes : List Node) → Keeps nodes (with_branch parent level start nodes)
keeps_branch zero parent start nodes = keeps_all nodes
keeps_branch (suc level) parent start nodes =
    let next = with_child_node parent level start nodes in
    keeps_both nodes next (with_branch (length nodes) level start next) (keeps_child parent level start nodes) (keeps_branch level (length nodes) start next)

-- ---- steps of a tree
pub keeps_with : (t : NodeTree) (found : Option ℕ) → IsGrown t → Keeps t.nodes (tree_with found t).nodes
keeps_with t None g = keeps_root t.root t.nodes g.rooted.there g.rooted.none
keeps_with t (Some n) g = keeps_all t.nodes

keeps_renewed : (ns : List ℕ) (top : ℕ) (t : NodeTree) → Keeps t.nodes (renewed ns top t).nodes
keeps_renewed ns top t =
    let closed = all_ended t.greatest ns t.nodes in
    keeps_both t.nodes closed (renewed ns top t).nodes (keeps_all_ended t.greatest ns t.nodes) (keeps_branch (node_at t.nodes top).level top (t.greatest + 1) closed)

pub keeps_ready : (old new : NodeTree) → IsGrown old → IsReady old new → Keeps old.nodes new.nodes
keeps_ready old new g h = by (has_room (node_at old.nodes old.leaf)) h
  where
    by : (b : Bool) → MatchBool b (new ≡ old) (IsRenewal old new) → Keeps old.nodes new.nodes
    by true is = subst (λ (k : NodeTree). Keeps old.nodes k.nodes) (sym is) (keeps_all old.nodes)
    by false r = subst (λ (k : NodeTree). Keeps old.nodes k.nodes) (sym r.is) (keeps_both old.nodes (tree_with r.found old).nodes (renewed r.numbers _ (tree_with r.found old)).nodes (keeps_with old r.found g) (keeps_renewed r.numbers _ (tree_with r.found old)))
