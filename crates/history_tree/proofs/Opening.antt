-- One node of a new branch after the other.
use Rattle.std.proofs.Common.{◌≡◌, ℕ, suc, ◌+◌, ◌-◌, ◌<◌, ◌≤◌, List, [], ◌∷◌, ◌++◌, length, refl, ap, ◌∙◌, arith}
use Rattle.history_nodes.specs.declared.node.Node.{Node}
use Rattle.history_nodes.specs.declared.children.TheConstants.{MAX_CHILDREN}
use Rattle.history_nodes.specs.Nodes.{NodeList, node_at, opened, adopted, with_parent}
use Rattle.history_tree.specs.Placement.{with_branch, with_child_node}
use Rattle.history_tree.proofs.Steps.{is_grown_below}

-- the branch below this node is what is left of the branch below the parent
pub record IsOpening (old now : NodeList) (parent number level start : ℕ) : Type 0 where
  pub there : number < length now.nodes
  pub room : length (node_at now.nodes number).children < MAX_CHILDREN
  pub spare : now.spare + (node_at old.nodes parent).level ≡ old.spare + level
  pub enough : level ≤ now.spare
  pub low : level ≤ (node_at old.nodes parent).level
  pub first : level ≡ (node_at old.nodes parent).level → number ≡ parent
  pub newest : level < (node_at old.nodes parent).level → number ≡ length now.nodes - 1
  pub whole : with_branch number level start now.nodes ≡ with_branch parent (node_at old.nodes parent).level start old.nodes

pub opening_begins : (nodes : NodeList) (parent level start : ℕ) → parent < length nodes.nodes → length (node_at nodes.nodes parent).children < MAX_CHILDREN → (node_at nodes.nodes parent).level ≤ nodes.spare → level ≡ (node_at nodes.nodes parent).level → IsOpening nodes nodes parent parent level start
opening_begins nodes parent level start there room spare is = record {
  there = there;
  room = room;
  spare = omega (arith, is);
  enough = omega (arith, is, spare);
  low = omega (arith, is);
  first = λ e. refl;
  newest = λ lt. absurd (omega (arith, is, lt));
  whole = ap (λ l. with_branch parent l start nodes.nodes) is;
}

-- after a node was pushed and adopted
pub opening_on : (old now new : NodeList) (pushed : List Node) (x : Node) (parent number child level start : ℕ) → IsOpening old now parent number level start → 0 < level → x ≡ opened (level - 1) start → child ≡ length now.nodes → pushed ≡ now.nodes ++ x ∷ [] → new.nodes ≡ adopted number child pushed → new.spare + 1 ≡ now.spare → IsOpening old new parent child (level - 1) start
opening_on old now new pushed x parent number child level start o pos is_x is_child is_pushed is_new is_spare =
    let step = is_grown_below now.nodes number (level - 1) start o.there in
    let is : new.nodes ≡ with_child_node number (level - 1) start now.nodes = is_new ∙ (ap (λ n. adopted number n pushed) is_child ∙ (ap (adopted number (length now.nodes)) (is_pushed ∙ ap (λ (y : Node). now.nodes ++ y ∷ []) is_x))) in
    let here : node_at new.nodes child ≡ with_parent number (opened (level - 1) start) = ap (node_at new.nodes) is_child ∙ (ap (λ (ns : List Node). node_at ns (length now.nodes)) is ∙ step.child) in
    let len : length new.nodes ≡ length now.nodes + 1 = ap (λ (ns : List Node). length ns) is ∙ step.len in
    let none : length (node_at new.nodes child).children ≡ 0 = ap (λ (y : Node). length y.children) here in
    let next : suc (level - 1) ≡ level = omega (arith, pos) in
    record {
      there = omega (arith, len, is_child);
      room = omega (arith, none);
      spare = omega (arith, o.spare, is_spare, pos);
      enough = omega (arith, o.enough, is_spare, pos);
      low = omega (arith, o.low);
      first = λ e. absurd (omega (arith, e, o.low, pos));
      newest = λ lt. omega (arith, len, is_child);
      whole = ap (λ n. with_branch n (level - 1) start new.nodes) is_child ∙ (ap (with_branch (length now.nodes) (level - 1) start) is ∙ (ap (λ l. with_branch number l start now.nodes) next ∙ o.whole));
    }
