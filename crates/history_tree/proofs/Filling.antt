-- How nodes are filled, where a node changes.
use Rattle.std.proofs.Common.{◌≡◌, ℕ, zero, suc, ◌+◌, ◌<◌, ◌≤◌, List, [], ◌∷◌, ◌++◌, length, ap, arith, set, length-append}
use Rattle.std.specs.List.{AllByRecursion}
use Rattle.history_nodes.specs.declared.interval.Interval.{Interval}
use Rattle.history_nodes.specs.declared.node.Node.{Node}
use Rattle.history_nodes.specs.declared.records.TheConstants.{MAX_RECORDS}
use Rattle.history_nodes.specs.declared.children.TheConstants.{MAX_CHILDREN}
use Rattle.history_nodes.specs.Nodes.{node_at, opened, ended, adopted, with_child, with_parent, with_record}
use Rattle.history_tree.specs.Tree.{IsInside, IsFilled}
use Rattle.history_tree.specs.Placement.{all_ended, with_branch, with_child_node, with_root_node}
use Rattle.history_tree.proofs.Steps.{is_grown_below, at_pushed, at_front}

-- ---- lists
pub each_set : (P : Node → Type 0) (nodes : List Node) (n : ℕ) (x : Node) → P x → AllByRecursion P nodes → AllByRecursion P (set nodes n x)
each_set P [] n x p h = tt
each_set P (y ∷ ys) zero x p h = (p, h.1)
each_set P (y ∷ ys) (suc n) x p h = (h.0, each_set P ys n x p h.1)

pub each_push : (P : Node → Type 0) (nodes : List Node) (x : Node) → P x → AllByRecursion P nodes → AllByRecursion P (nodes ++ x ∷ [])
each_push P [] x p h = (p, tt)
each_push P (y ∷ ys) x p h = (h.0, each_push P ys x p h.1)

pub each_weaker : (P Q : Node → Type 0) (nodes : List Node) → ((x : Node) → P x → Q x) → AllByRecursion P nodes → AllByRecursion Q nodes
each_weaker P Q [] f h = tt
each_weaker P Q (y ∷ ys) f h = (f y h.0, each_weaker P Q ys f h.1)

pub all_with : (P Q R : Interval → Type 0) (is : List Interval) → ((i : Interval) → P i → Q i → R i) → AllByRecursion P is → AllByRecursion Q is → AllByRecursion R is
all_with P Q R [] f h g = tt
all_with P Q R (i ∷ is) f h g = (f i h.0 g.0, all_with P Q R is f h.1 g.1)

all_push : (P : Interval → Type 0) (is : List Interval) (i : Interval) → AllByRecursion P is → P i → AllByRecursion P (is ++ i ∷ [])
all_push P [] i h p = (p, tt)
all_push P (j ∷ is) i h p = (h.0, all_push P is i h.1 p)

-- ---- one node
pub filled_new : (greatest level start : ℕ) → IsFilled greatest (opened level start)
filled_new greatest level start = record { few_records = omega arith; few_children = omega arith; inside = tt; ends = tt }

-- a node that isn't there counts as filled
pub filled_at : (greatest : ℕ) (nodes : List Node) → AllByRecursion (IsFilled greatest) nodes → (n : ℕ) → IsFilled greatest (node_at nodes n)
filled_at greatest [] h n = filled_new greatest 0 0
filled_at greatest (y ∷ ys) h zero = h.0
filled_at greatest (y ∷ ys) h (suc n) = filled_at greatest ys h.1 n

filled_ended : (greatest : ℕ) (x : Node) → IsFilled greatest x → IsFilled greatest (ended greatest x)
filled_ended greatest x h = record {
  few_records = h.few_records;
  few_children = h.few_children;
  inside = all_with (IsInside x) (λ i. i.end ≤ greatest) (IsInside (ended greatest x)) x.intervals (λ i a b. record { begins = a.begins; ends = b }) h.inside h.ends;
  ends = h.ends;
}

filled_child : (greatest child : ℕ) (x : Node) → length x.children < MAX_CHILDREN → IsFilled greatest x → IsFilled greatest (with_child child x)
filled_child greatest child x lt h = record {
  few_records = h.few_records;
  few_children = omega (arith, length-append x.children (child ∷ []));
  inside = all_with (IsInside x) (IsInside x) (IsInside (with_child child x)) x.intervals (λ i a b. record { begins = a.begins; ends = a.ends }) h.inside h.inside;
  ends = h.ends;
}

filled_parent : (greatest parent : ℕ) (x : Node) → IsFilled greatest x → IsFilled greatest (with_parent parent x)
filled_parent greatest parent x h = record {
  few_records = h.few_records;
  few_children = h.few_children;
  inside = all_with (IsInside x) (IsInside x) (IsInside (with_parent parent x)) x.intervals (λ i a b. record { begins = a.begins; ends = a.ends }) h.inside h.inside;
  ends = h.ends;
}

pub filled_later : (greatest later : ℕ) (x : Node) → greatest ≤ later → IsFilled greatest x → IsFilled later x
filled_later greatest later x le h = record {
  few_records = h.few_records;
  few_children = h.few_children;
  inside = h.inside;
  ends = all_with (λ i. i.end ≤ greatest) (λ i. i.end ≤ greatest) (λ i. i.end ≤ later) x.intervals (λ i a b. omega arith) h.ends h.ends;
}

filled_record : (greatest : ℕ) (i : Interval) (x : Node) → length x.intervals < MAX_RECORDS → IsInside x i → i.end ≤ greatest → IsFilled greatest x → IsFilled greatest (with_record i x)
filled_record greatest i x lt within le h = record {
  few_records = omega (arith, length-append x.intervals (i ∷ []));
  few_children = h.few_children;
  inside = all_push (IsInside (with_record i x)) x.intervals i
      (all_with (IsInside x) (IsInside x) (IsInside (with_record i x)) x.intervals (λ j a b. record { begins = a.begins; ends = a.ends }) h.inside h.inside) (record { begins = within.begins; ends = within.ends });
  ends = all_push (λ j. j.end ≤ greatest) x.intervals i h.ends le;
}

-- ---- nodes
pub each_ended : (greatest : ℕ) (ns : List ℕ) (nodes : List Node) → AllByRecursion (IsFilled greatest) nodes → AllByRecursion (IsFilled greatest) (all_ended greatest ns nodes)
each_ended greatest [] nodes h = h
each_ended greatest (n ∷ ns) nodes h = each_ended greatest ns (set nodes n (ended greatest (node_at nodes n))) (each_set (IsFilled greatest) nodes n (ended greatest (node_at nodes n)) (filled_ended greatest (node_at nodes n) (filled_at greatest nodes h n)) h)

pub each_adopted : (greatest parent child : ℕ) (nodes : List Node) → length (node_at nodes parent).children < MAX_CHILDREN → AllByRecursion (IsFilled greatest) nodes → AllByRecursion (IsFilled greatest) (adopted parent child nodes)
each_adopted greatest parent child nodes lt h =
    let grown = set nodes parent (with_child child (node_at nodes parent)) in
    let g = each_set (IsFilled greatest) nodes parent (with_child child (node_at nodes parent)) (filled_child greatest child (node_at nodes parent) lt (filled_at greatest nodes h parent)) h in
    each_set (IsFilled greatest) grown child (with_parent parent (node_at grown child)) (filled_parent greatest parent (node_at grown child) (filled_at greatest grown g child)) g

pub each_root : (greatest root : ℕ) (nodes : List Node) → AllByRecursion (IsFilled greatest) nodes → AllByRecursion (IsFilled greatest) (with_root_node root nodes)
each_root greatest root nodes h =
    let x = opened ((node_at nodes root).level + 1) 0 in
    each_adopted greatest (length nodes) root (nodes ++ x ∷ []) (rw (at_pushed nodes x) (omega arith)) (each_push (IsFilled greatest) nodes x (filled_new greatest ((node_at nodes root).level + 1) 0) h)

pub each_branch : (greatest level parent start : ℕ) (nodes : List Node) → parent < length nodes → length (node_at nodes parent).children < MAX_CHILDREN → AllByRecursion (IsFilled greatest) nodes → AllByRecursion (IsFilled greatest) (with_branch parent level start nodes)
each_branch greatest zero parent start nodes there lt h = h
each_branch greatest (suc level) parent start nodes there lt h =
    let x = opened level start in
    let step = is_grown_below nodes parent level start there in
    let none : (node_at (with_child_node parent level start nodes) (length nodes)).children ≡ [] = ap (λ (y : Node). y.children) step.child in
    let same : node_at (nodes ++ x ∷ []) parent ≡ node_at nodes parent = at_front nodes x parent there in
    each_branch greatest level (length nodes) start (with_child_node parent level start nodes) (omega (arith, step.len)) (omega (arith, ap length none))
    (each_adopted greatest parent (length nodes) (nodes ++ x ∷ []) (omega (arith, ap (λ (y : Node). length y.children) same)) (each_push (IsFilled greatest) nodes x (filled_new greatest level start) h))

pub each_put : (greatest later : ℕ) (n : ℕ) (i : Interval) (nodes : List Node) → greatest ≤ later → i.end ≤ later → length (node_at nodes n).intervals < MAX_RECORDS → IsInside (node_at nodes n) i → AllByRecursion (IsFilled greatest) nodes
    → AllByRecursion (IsFilled later) (set nodes n (with_record i (node_at nodes n)))
each_put greatest later n i nodes le ends lt within h =
    let g = each_weaker (IsFilled greatest) (IsFilled later) nodes (λ x f. filled_later greatest later x le f) h in
    each_set (IsFilled later) nodes n (with_record i (node_at nodes n)) (filled_record later i (node_at nodes n) lt within ends (filled_at later nodes g n)) g
