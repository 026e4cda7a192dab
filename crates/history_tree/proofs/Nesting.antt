-- Nodes while a tree grows: the latest branch ends in a newest node, whose next child begins after the greatest end.
use Rattle.std.proofs.Common.{◌≡◌, ◌≢◌, ◌⊎◌, inl, inr, ℕ, ◌+◌, ◌<◌, ◌≤◌, List, [], length, Option, None, Some, refl, sym, ap, ◌∙◌, subst, arith}
use Rattle.std.specs.Prelude.{unwrap_or}
use Rattle.std.proofs.lemmas.Bool.{cases_eq}
use Rattle.trace_types.specs.declared.limits.TheConstants.{TIME_END}
use Rattle.history_nodes.specs.declared.node.Node.{Node}
use Rattle.history_nodes.specs.Nodes.{node_at, end_of}
use Rattle.history_tree.specs.Tree.{IsAmong, AreAdjacent, IsChild, IsParent}
use Rattle.history_tree.proofs.Steps.{IsEnded}
use Rattle.history_tree.proofs.Ranges.{HasSameRange, adjacent_same, adjacent_closed, last_at_none, none_at_last, end_within}

-- nodes that are linked and whose ranges nest
pub record IsNesting (nodes : List Node) (newest greatest : ℕ) : Type 0 where
  pub leaves : (n : ℕ) → n < length nodes → (node_at nodes n).level ≡ 0 → (node_at nodes n).children ≡ []
  pub children : (n c : ℕ) → n < length nodes → IsAmong c (node_at nodes n).children → IsChild nodes n c
  pub parents : (n p : ℕ) → n < length nodes → (node_at nodes n).parent ≡ Some p → IsParent nodes p n
  pub ranges : (n : ℕ) → n < length nodes → n ≢ newest → 0 < (node_at nodes n).level → AreAdjacent nodes (node_at nodes n).start (node_at nodes n).children (end_of (node_at nodes n) + 1)
  pub newest_range : 0 < (node_at nodes newest).level → AreAdjacent nodes (node_at nodes newest).start (node_at nodes newest).children (greatest + 1)
  pub ordered : (n : ℕ) → n < length nodes → (node_at nodes n).start ≤ end_of (node_at nodes n)
  pub closed : (n e : ℕ) → n < length nodes → (node_at nodes n).end ≡ Some e → e ≤ greatest
  pub newest_there : newest < length nodes
  pub newest_open : (node_at nodes newest).end ≡ None

-- the one node without a parent
pub record IsRooted (nodes : List Node) (root : ℕ) : Type 0 where
  pub there : root < length nodes
  pub none : (node_at nodes root).parent ≡ None
  pub alone : (n : ℕ) → n < length nodes → (node_at nodes n).parent ≡ None → n ≡ root
  pub first : (node_at nodes root).start ≡ 0
  pub highest : (n : ℕ) → n < length nodes → n ≢ root → (node_at nodes n).level < (node_at nodes root).level
  pub few_levels : (node_at nodes root).level < length nodes
  pub root_open : (node_at nodes root).end ≡ None

-- a node keeps its links and its start
pub record HasSameLinks (old new : List Node) (n : ℕ) : Type 0 where
  pub parent : (node_at new n).parent ≡ (node_at old n).parent
  pub level : (node_at new n).level ≡ (node_at old n).level
  pub start : (node_at new n).start ≡ (node_at old n).start
  pub children : (node_at new n).children ≡ (node_at old n).children

pub links_same : (old new : List Node) (n : ℕ) → node_at new n ≡ node_at old n → HasSameLinks old new n
links_same old new n e = record {
  parent = ap (λ (x : Node). x.parent) e;
  level = ap (λ (x : Node). x.level) e;
  start = ap (λ (x : Node). x.start) e;
  children = ap (λ (x : Node). x.children) e;
}

pub range_same : (old new : List Node) (n : ℕ) → node_at new n ≡ node_at old n → HasSameRange old new n
range_same old new n e = record { start = ap (λ (x : Node). x.start) e; ends = ap (λ (x : Node). x.end) e }

pub moved : (nodes : List Node) (from from' : ℕ) (cs cs' : List ℕ) (to to' : ℕ) → from ≡ from' → cs ≡ cs' → to ≡ to' → AreAdjacent nodes from cs to → AreAdjacent nodes from' cs' to'
moved nodes from from' cs cs' to to' f c t h = subst (λ x. AreAdjacent nodes x cs' to') f (subst (λ xs. AreAdjacent nodes from xs to') c (subst (λ x. AreAdjacent nodes from cs x) t h))

-- a child is another node than its parent
pub child_differs : (nodes : List Node) (p c : ℕ) → IsChild nodes p c → c ≢ p
child_differs nodes p c h e = let l : (node_at nodes c).level ≡ (node_at nodes p).level = ap (λ k. (node_at nodes k).level) e in absurd (omega (arith, h.level, l))

-- a child has one parent
pub one_parent : (nodes : List Node) (p q c : ℕ) → IsChild nodes p c → (node_at nodes c).parent ≡ Some q → p ≡ q
one_parent nodes p q c h e = let both : Some p ≡ Some q = sym h.names ∙ e in ap (λ (o : Option ℕ). unwrap_or o p) both

-- ---- a node ends
pub ended_links : (old new : List Node) (k e : ℕ) → IsEnded old new k e → (n : ℕ) → HasSameLinks old new n
ended_links old new k e h n = by (cases_eq n k)
  where
    by : (n ≡ k) ⊎ (n ≡ k → ⊥) → HasSameLinks old new n
    by (inl is) = subst (λ m. HasSameLinks old new m) (sym is) (record {
      parent = ap (λ (x : Node). x.parent) h.here;
      level = ap (λ (x : Node). x.level) h.here;
      start = ap (λ (x : Node). x.start) h.here;
      children = ap (λ (x : Node). x.children) h.here;
    })
    by (inr ne) = links_same old new n (h.others n ne)

pub nesting_ended : (old new : List Node) (tip parent greatest : ℕ) → IsEnded old new tip greatest → IsNesting old tip greatest → greatest + 1 < TIME_END → (node_at old tip).parent ≡ Some parent → (node_at old tip).start ≤ greatest → IsNesting new parent greatest
nesting_ended old new tip parent greatest step h lt names begun = record {
  leaves = λ n there z. (links n).children ∙ h.leaves n (old_there n there) (sym (links n).level ∙ z);
  children = λ n c there m. let k = h.children n c (old_there n there) (subst (λ cs. IsAmong c cs) (links n).children m) in record {
    there = new_there c k.there;
    names = (links c).parent ∙ k.names;
    level = ap (λ x. x + 1) (links c).level ∙ (k.level ∙ sym (links n).level);
  };
  parents = λ n p there e. let k = h.parents n p (old_there n there) (sym (links n).parent ∙ e) in record {
    there = new_there p k.there;
    names = subst (λ cs. IsAmong n cs) (sym (links p).children) k.names;
  };
  ranges = ranges;
  newest_range = λ pos. moved new (node_at old parent).start (node_at new parent).start (node_at old parent).children (node_at new parent).children (greatest + 1) (greatest + 1) (sym (links parent).start) (sym (links parent).children) refl above.0;
  ordered = ordered;
  closed = closed;
  newest_there = new_there parent p_there;
  newest_open = ap (λ (x : Node). x.end) (step.others parent p_differs) ∙ none_at_last (node_at old parent).end greatest (λ e is. h.closed parent e p_there is) lt above.1;
}
  where
    links : (n : ℕ) → HasSameLinks old new n
    links = ended_links old new tip greatest step

    old_there : (n : ℕ) → n < length new → n < length old
    old_there n there = omega (arith, step.len)

    new_there : (n : ℕ) → n < length old → n < length new
    new_there n there = omega (arith, step.len)

    up : IsParent old parent tip
    up = h.parents tip parent h.newest_there names

    p_there : parent < length old
    p_there = up.there

    down : IsChild old parent tip
    down = h.children parent tip p_there up.names

    p_differs : parent ≢ tip
    p_differs e = child_differs old parent tip down (sym e)

    p_high : 0 < (node_at old parent).level
    p_high = omega (arith, down.level)

    -- the children of a node other than the parent, and those of the one that ends, keep their ranges
    others_same : (n c : ℕ) → n < length old → n ≢ parent → IsAmong c (node_at old n).children → HasSameRange old new c
    others_same n c there ne m = range_same old new c (step.others c (λ e. ne (one_parent old n parent c (h.children n c there m) (ap (λ k. (node_at old k).parent) e ∙ names))))

    above : AreAdjacent new (node_at old parent).start (node_at old parent).children (greatest + 1) × (end_of (node_at old parent) + 1 ≡ TIME_END)
    above = adjacent_closed old new (node_at old parent).start (node_at old parent).children (end_of (node_at old parent) + 1) tip greatest
        (h.ranges parent p_there p_differs p_high) up.names (last_at_none (node_at old tip).end h.newest_open)
        (λ c m. let k = h.children parent c p_there m in omega (arith, h.ordered c k.there, end_within (node_at old c).end greatest (λ e is. h.closed c e k.there is) lt))
        (λ c m ne. range_same old new c (step.others c ne)) (links tip).start (ap (λ (x : Node). x.end) step.here)

    ends_at : end_of (node_at new tip) ≡ greatest
    ends_at = ap end_of step.here

    ranges : (n : ℕ) → n < length new → n ≢ parent → 0 < (node_at new n).level → AreAdjacent new (node_at new n).start (node_at new n).children (end_of (node_at new n) + 1)
    ranges n there ne pos = by (cases_eq n tip)
      where
        n_old : n < length old
        n_old = old_there n there

        pos_old : 0 < (node_at old n).level
        pos_old = omega (arith, (links n).level)

        by : (n ≡ tip) ⊎ (n ≡ tip → ⊥) → AreAdjacent new (node_at new n).start (node_at new n).children (end_of (node_at new n) + 1)
        by (inl is) = moved new (node_at old n).start (node_at new n).start (node_at old n).children (node_at new n).children (greatest + 1) (end_of (node_at new n) + 1) (sym (links n).start) (sym (links n).children)
            (ap (λ x. x + 1) (sym ends_at) ∙ ap (λ k. end_of (node_at new k) + 1) (sym is))
            (adjacent_same old new (node_at old n).start (node_at old n).children (greatest + 1) (λ c m. others_same n c n_old ne m)
            (subst (λ k. AreAdjacent old (node_at old k).start (node_at old k).children (greatest + 1)) (sym is) (h.newest_range (subst (λ k. 0 < (node_at old k).level) is pos_old))))
        by (inr other) = moved new (node_at old n).start (node_at new n).start (node_at old n).children (node_at new n).children (end_of (node_at old n) + 1) (end_of (node_at new n) + 1) (sym (links n).start) (sym (links n).children)
            (ap (λ (x : Node). end_of x + 1) (sym (step.others n other)))
            (adjacent_same old new (node_at old n).start (node_at old n).children (end_of (node_at old n) + 1) (λ c m. others_same n c n_old ne m) (h.ranges n n_old other pos_old))

    ordered : (n : ℕ) → n < length new → (node_at new n).start ≤ end_of (node_at new n)
    ordered n there = by (cases_eq n tip)
      where
        by : (n ≡ tip) ⊎ (n ≡ tip → ⊥) → (node_at new n).start ≤ end_of (node_at new n)
        by (inl is) = subst (λ k. (node_at new k).start ≤ end_of (node_at new k)) (sym is) (omega (arith, (links tip).start, ends_at, begun))
        by (inr other) = subst (λ (x : Node). x.start ≤ end_of x) (sym (step.others n other)) (h.ordered n (old_there n there))

    closed : (n e : ℕ) → n < length new → (node_at new n).end ≡ Some e → e ≤ greatest
    closed n e there is_end = by (cases_eq n tip)
      where
        by : (n ≡ tip) ⊎ (n ≡ tip → ⊥) → e ≤ greatest
        by (inl is) = let both : Some greatest ≡ Some e = sym (ap (λ (x : Node). x.end) step.here) ∙ (ap (λ k. (node_at new k).end) (sym is) ∙ is_end) in let same : greatest ≡ e = ap (λ (o : Option ℕ). unwrap_or o greatest) both in omega (arith, same)
        by (inr other) = h.closed n e (old_there n there) (sym (ap (λ (x : Node). x.end) (step.others n other)) ∙ is_end)

pub rooted_ended : (old new : List Node) (root tip parent greatest : ℕ) → IsEnded old new tip greatest → IsRooted old root → (node_at old tip).parent ≡ Some parent → IsRooted new root
rooted_ended old new root tip parent greatest step h names = record {
  there = omega (arith, step.len, h.there);
  none = (links root).parent ∙ h.none;
  alone = λ n there e. h.alone n (omega (arith, step.len)) (sym (links n).parent ∙ e);
  first = (links root).start ∙ h.first;
  highest = λ n there ne. omega (arith, (links root).level, (links n).level, h.highest n (omega (arith, step.len)) ne);
  few_levels = omega (arith, (links root).level, step.len, h.few_levels);
  root_open = ap (λ (x : Node). x.end) (step.others root differs) ∙ h.root_open;
}
  where
    links : (n : ℕ) → HasSameLinks old new n
    links = ended_links old new tip greatest step

    differs : root ≢ tip
    differs e = let both : None ≡ Some parent = sym h.none ∙ (ap (λ k. (node_at old k).parent) e ∙ names) in absurd (cc)
