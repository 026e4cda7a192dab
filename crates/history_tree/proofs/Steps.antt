-- What one step changes in nodes: an end, a child, or a root.
use Rattle.std.proofs.Common.{◌≡◌, ◌≢◌, ℕ, ◌+◌, ◌<◌, List, [], ◌∷◌, ◌++◌, length, ap, ◌∙◌, arith, length-set, length-append, set}
use Rattle.std.proofs.lemmas.List.{get_or-set_same, get_or-set_other, get_or_append_left}
use Rattle.std.proofs.Math.Seq.{get_or-append_seam}
use Rattle.history_nodes.specs.declared.node.Node.{Node}
use Rattle.history_nodes.specs.Nodes.{node_at, opened, ended, with_child, with_parent}
use Rattle.history_tree.specs.Placement.{with_root_node, with_child_node}

-- ---- look-ups
pub at_set : (nodes : List Node) (n : ℕ) (x : Node) → n < length nodes → node_at (set nodes n x) n ≡ x
at_set nodes n x h = get_or-set_same nodes n x (opened 0 0) h

pub at_other : (nodes : List Node) (n m : ℕ) (x : Node) → m ≢ n → node_at (set nodes n x) m ≡ node_at nodes m
at_other nodes n m x h = get_or-set_other nodes n m x (opened 0 0) h

pub at_front : (nodes : List Node) (x : Node) (n : ℕ) → n < length nodes → node_at (nodes ++ x ∷ []) n ≡ node_at nodes n
at_front nodes x n h = get_or_append_left nodes (x ∷ []) (opened 0 0) n h

pub at_pushed : (nodes : List Node) (x : Node) → node_at (nodes ++ x ∷ []) (length nodes) ≡ x
at_pushed nodes x = get_or-append_seam nodes x [] (opened 0 0)

-- ---- a node's end
pub record IsEnded (old new : List Node) (number end : ℕ) : Type 0 where
  pub len : length new ≡ length old
  pub here : node_at new number ≡ ended end (node_at old number)
  pub others : (n : ℕ) → n ≢ number → node_at new n ≡ node_at old n

pub is_ended : (nodes : List Node) (number end : ℕ) → number < length nodes → IsEnded nodes (set nodes number (ended end (node_at nodes number))) number end
is_ended nodes number end h = record {
  len = length-set nodes number (ended end (node_at nodes number));
  here = at_set nodes number _ h;
  others = λ n ne. at_other nodes number n _ ne;
}

-- ---- a new last child
pub record IsGrownBelow (old new : List Node) (parent level start : ℕ) : Type 0 where
  pub len : length new ≡ length old + 1
  pub above : node_at new parent ≡ with_child (length old) (node_at old parent)
  pub child : node_at new (length old) ≡ with_parent parent (opened level start)
  pub others : (n : ℕ) → n < length old → n ≢ parent → node_at new n ≡ node_at old n

pub is_grown_below : (nodes : List Node) (parent level start : ℕ) → parent < length nodes → IsGrownBelow nodes (with_child_node parent level start nodes) parent level start
is_grown_below nodes parent level start h =
    let x = opened level start in
    let pushed = nodes ++ x ∷ [] in
    let grown = set pushed parent (with_child (length nodes) (node_at pushed parent)) in
    let more : length pushed ≡ length nodes + 1 = length-append nodes (x ∷ []) in
    let same : length grown ≡ length pushed = length-set pushed parent (with_child (length nodes) (node_at pushed parent)) in
    let ne : parent ≢ length nodes = omega arith in
    let ne' : length nodes ≢ parent = omega arith in
    record {
      len = length-set grown (length nodes) (with_parent parent (node_at grown (length nodes))) ∙ (same ∙ more);
      above = at_other grown (length nodes) parent _ ne ∙ (at_set pushed parent _ (omega (arith, more)) ∙ ap (with_child (length nodes)) (at_front nodes x parent h));
      child = at_set grown (length nodes) _ (omega (arith, more, same)) ∙ ap (with_parent parent) (at_other pushed parent (length nodes) _ ne' ∙ at_pushed nodes x);
      others = λ n lt n_ne. let n_old : n ≢ length nodes = omega arith in at_other grown (length nodes) n _ n_old ∙ (at_other pushed parent n _ n_ne ∙ at_front nodes x n lt);
    }

-- ---- a new root
pub record IsGrownAbove (old new : List Node) (root : ℕ) : Type 0 where
  pub len : length new ≡ length old + 1
  pub below : node_at new root ≡ with_parent (length old) (node_at old root)
  pub above : node_at new (length old) ≡ with_child root (opened ((node_at old root).level + 1) 0)
  pub others : (n : ℕ) → n < length old → n ≢ root → node_at new n ≡ node_at old n

pub is_grown_above : (nodes : List Node) (root : ℕ) → root < length nodes → IsGrownAbove nodes (with_root_node root nodes) root
is_grown_above nodes root h =
    let x = opened ((node_at nodes root).level + 1) 0 in
    let pushed = nodes ++ x ∷ [] in
    let grown = set pushed (length nodes) (with_child root (node_at pushed (length nodes))) in
    let more : length pushed ≡ length nodes + 1 = length-append nodes (x ∷ []) in
    let same : length grown ≡ length pushed = length-set pushed (length nodes) (with_child root (node_at pushed (length nodes))) in
    let ne : root ≢ length nodes = omega arith in
    let ne' : length nodes ≢ root = omega arith in
    record {
      len = length-set grown root (with_parent (length nodes) (node_at grown root)) ∙ (same ∙ more);
      below = at_set grown root _ (omega (arith, more, same)) ∙ ap (with_parent (length nodes)) (at_other pushed (length nodes) root _ ne ∙ at_front nodes x root h);
      above = at_other grown root (length nodes) _ ne' ∙ (at_set pushed (length nodes) _ (omega (arith, more)) ∙ ap (with_child root) (at_pushed nodes x));
      others = λ n lt n_ne. let n_old : n ≢ length nodes = omega arith in at_other grown root n _ n_ne ∙ (at_other pushed (length nodes) n _ n_old ∙ at_front nodes x n lt);
    }
