-- The records of nodes where a node changes, and where a record comes in.
use Rattle.std.proofs.Common.{◌≡◌, ℕ, zero, suc, ◌+◌, ◌<◌, List, [], ◌∷◌, ◌++◌, length, refl, sym, ap, ◌∙◌, arith, append_assoc, set}
use Rattle.std.specs.List.{AllByRecursion}
use Rattle.history_nodes.specs.declared.interval.Interval.{Interval}
use Rattle.history_nodes.specs.declared.node.Node.{Node}
use Rattle.history_nodes.specs.Nodes.{node_at, opened, ended, adopted, with_child, with_parent, with_record}
use Rattle.history_tree.specs.Records.{records_of, IsApart, AreApart}
use Rattle.history_tree.specs.Placement.{all_ended, with_branch, with_child_node, with_root_node}

-- ---- nodes that keep their records
pub records_set : (nodes : List Node) (n : ℕ) (x : Node) → x.intervals ≡ (node_at nodes n).intervals → records_of (set nodes n x) ≡ records_of nodes
records_set [] n x e = refl
records_set (y ∷ ys) zero x e = ap (λ is. is ++ records_of ys) e
records_set (y ∷ ys) (suc n) x e = ap (λ is. y.intervals ++ is) (records_set ys n x e)

pub records_push : (nodes : List Node) (x : Node) → x.intervals ≡ [] → records_of (nodes ++ x ∷ []) ≡ records_of nodes
records_push [] x e = ap (λ is. is ++ []) e
records_push (y ∷ ys) x e = ap (λ is. y.intervals ++ is) (records_push ys x e)

pub records_adopted : (parent child : ℕ) (nodes : List Node) → records_of (adopted parent child nodes) ≡ records_of nodes
records_adopted parent child nodes =
    let grown = set nodes parent (with_child child (node_at nodes parent)) in
    records_set grown child (with_parent parent (node_at grown child)) refl ∙ records_set nodes parent (with_child child (node_at nodes parent)) refl

pub records_child : (parent level start : ℕ) (nodes : List Node) → records_of (with_child_node parent level start nodes) ≡ records_of nodes
records_child parent level start nodes = records_adopted parent (length nodes) (nodes ++ opened level start ∷ []) ∙ records_push nodes (opened level start) refl

pub records_root : (root : ℕ) (nodes : List Node) → records_of (with_root_node root nodes) ≡ records_of nodes
records_root root nodes = records_adopted (length nodes) root (nodes ++ opened ((node_at nodes root).level + 1) 0 ∷ []) ∙ records_push nodes (opened ((node_at nodes root).level + 1) 0) refl

pub records_ended : (end : ℕ) (ns : List ℕ) (nodes : List Node) → records_of (all_ended end ns nodes) ≡ records_of nodes
records_ended end [] nodes = refl
records_ended end (n ∷ ns) nodes = records_ended end ns (set nodes n (ended end (node_at nodes n))) ∙ records_set nodes n (ended end (node_at nodes n)) refl

pub records_branch : (level parent start : ℕ) (nodes : List Node) → records_of (with_branch parent level start nodes) ≡ records_of nodes
records_branch zero parent start nodes = refl
records_branch (suc level) parent start nodes = records_branch level (length nodes) start (with_child_node parent level start nodes) ∙ records_child parent level start nodes

-- ---- one more record
pub record IsBetween (old new : List Interval) (i : Interval) : Type 0 where
  pub front : List Interval
  pub back : List Interval
  pub before : old ≡ front ++ back
  pub after : new ≡ front ++ (i ∷ back)

pub records_put : (nodes : List Node) (n : ℕ) (i : Interval) → n < length nodes → IsBetween (records_of nodes) (records_of (set nodes n (with_record i (node_at nodes n)))) i
records_put [] n i h = absurd (omega arith)
records_put (y ∷ ys) zero i h = record { front = y.intervals; back = records_of ys; before = refl; after = append_assoc y.intervals (i ∷ []) (records_of ys) }
records_put (y ∷ ys) (suc n) i h =
    let r = records_put ys n i (omega arith) in
    record {
      front = y.intervals ++ r.front;
      back = r.back;
      before = ap (λ is. y.intervals ++ is) r.before ∙ sym (append_assoc y.intervals r.front r.back);
      after = ap (λ is. y.intervals ++ is) r.after ∙ sym (append_assoc y.intervals r.front (i ∷ r.back));
    }

-- ---- apart
pub all_left : (P : Interval → Type 0) (xs ys : List Interval) → AllByRecursion P (xs ++ ys) → AllByRecursion P xs
all_left P [] ys h = tt
all_left P (x ∷ xs) ys h = (h.0, all_left P xs ys h.1)

pub all_right : (P : Interval → Type 0) (xs ys : List Interval) → AllByRecursion P (xs ++ ys) → AllByRecursion P ys
all_right P [] ys h = h
all_right P (x ∷ xs) ys h = all_right P xs ys h.1

pub all_both : (P : Interval → Type 0) (xs ys : List Interval) → AllByRecursion P xs → AllByRecursion P ys → AllByRecursion P (xs ++ ys)
all_both P [] ys h g = g
all_both P (x ∷ xs) ys h g = (h.0, all_both P xs ys h.1 g)

pub all_weaker : (P Q : Interval → Type 0) (xs : List Interval) → ((x : Interval) → P x → Q x) → AllByRecursion P xs → AllByRecursion Q xs
all_weaker P Q [] f h = tt
all_weaker P Q (x ∷ xs) f h = (f x h.0, all_weaker P Q xs f h.1)

pub apart_between : (front back : List Interval) (i : Interval) → AreApart (front ++ back) → AllByRecursion (IsApart i) (front ++ back) → AreApart (front ++ (i ∷ back))
apart_between [] back i h g = (g, h)
apart_between (f ∷ front) back i h g = (
  all_both (IsApart f) front (i ∷ back) (all_left (IsApart f) front back h.0) ((λ e t a b. g.0 (sym e) t b a), all_right (IsApart f) front back h.0),
  apart_between front back i h.1 g.1,
)
