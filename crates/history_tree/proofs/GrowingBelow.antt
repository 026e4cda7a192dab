-- A new last child of the newest node.
use Rattle.std.proofs.Common.{◌≡◌, ◌≢◌, ◌⊎◌, inl, inr, ℕ, ◌+◌, ◌-◌, ◌<◌, ◌≤◌, List, [], ◌∷◌, ◌++◌, length, Option, None, Some, refl, sym, ap, ◌∙◌, subst, arith}
use Rattle.std.specs.Prelude.{unwrap_or}
use Rattle.std.proofs.lemmas.Bool.{cases_eq}
use Rattle.trace_types.specs.declared.limits.TheConstants.{TIME_END}
use Rattle.history_nodes.specs.declared.node.Node.{Node}
use Rattle.history_nodes.specs.Nodes.{node_at, end_of}
use Rattle.history_tree.specs.Tree.{IsAmong, AreAdjacent, IsChild, IsParent}
use Rattle.history_tree.proofs.Steps.{IsGrownBelow}
use Rattle.history_tree.proofs.Ranges.{adjacent_same, adjacent_push, last_at_none, among_left, among_new, among_split}
use Rattle.history_tree.proofs.Nesting.{IsNesting, IsRooted, moved}

-- what an old node keeps
pub record HasSameShape (old new : List Node) (n : ℕ) : Type 0 where
  pub parent : (node_at new n).parent ≡ (node_at old n).parent
  pub level : (node_at new n).level ≡ (node_at old n).level
  pub start : (node_at new n).start ≡ (node_at old n).start
  pub ends : (node_at new n).end ≡ (node_at old n).end

pub shape_same : (old new : List Node) (n : ℕ) → node_at new n ≡ node_at old n → HasSameShape old new n
shape_same old new n e = record {
  parent = ap (λ (x : Node). x.parent) e;
  level = ap (λ (x : Node). x.level) e;
  start = ap (λ (x : Node). x.start) e;
  ends = ap (λ (x : Node). x.end) e;
}

-- an old number or the new one
pub old_or_new : (n len : ℕ) → n < len + 1 → (n < len) ⊎ (n ≡ len)
old_or_new n len lt = by (cases_eq n len)
  where
    by : (n ≡ len) ⊎ (n ≡ len → ⊥) → (n < len) ⊎ (n ≡ len)
    by (inl e) = inr e
    by (inr ne) = inl (omega arith)

pub below_shapes : (old new : List Node) (tip level start : ℕ) → IsGrownBelow old new tip level start → (n : ℕ) → n < length old → HasSameShape old new n
below_shapes old new tip level start step n there = by (cases_eq n tip)
  where
    by : (n ≡ tip) ⊎ (n ≡ tip → ⊥) → HasSameShape old new n
    by (inl is) = subst (λ m. HasSameShape old new m) (sym is) (record {
      parent = ap (λ (x : Node). x.parent) step.above;
      level = ap (λ (x : Node). x.level) step.above;
      start = ap (λ (x : Node). x.start) step.above;
      ends = ap (λ (x : Node). x.end) step.above;
    })
    by (inr ne) = shape_same old new n (step.others n there ne)

pub nesting_grown_below : (old new : List Node) (tip level greatest : ℕ) → IsGrownBelow old new tip level (greatest + 1) → IsNesting old tip greatest → greatest + 1 < TIME_END → (node_at old tip).level ≡ level + 1 → IsNesting new (length old) greatest
nesting_grown_below old new tip level greatest step h lt high = record {
  leaves = leaves;
  children = children;
  parents = parents;
  ranges = ranges;
  newest_range = λ pos. moved new (greatest + 1) (node_at new c).start [] (node_at new c).children (greatest + 1) (greatest + 1) (ap (λ (x : Node). x.start) (sym step.child)) (ap (λ (x : Node). x.children) (sym step.child)) refl refl;
  ordered = ordered;
  closed = closed;
  newest_there = omega (arith, step.len);
  newest_open = ap (λ (x : Node). x.end) step.child;
}
  where
    c : ℕ
    c = length old

    shapes : (n : ℕ) → n < length old → HasSameShape old new n
    shapes = below_shapes old new tip level (greatest + 1) step

    split : (n : ℕ) → n < length new → (n < length old) ⊎ (n ≡ c)
    split n there = old_or_new n (length old) (omega (arith, step.len))

    c_there : length old < length new
    c_there = omega (arith, step.len)

    c_level : (node_at new (length old)).level ≡ level
    c_level = ap (λ (x : Node). x.level) step.child

    c_children : (node_at new (length old)).children ≡ []
    c_children = ap (λ (x : Node). x.children) step.child

    c_parent : (node_at new (length old)).parent ≡ Some tip
    c_parent = ap (λ (x : Node). x.parent) step.child

    tip_children : (node_at new tip).children ≡ (node_at old tip).children ++ length old ∷ []
    tip_children = ap (λ (x : Node). x.children) step.above

    leaves : (n : ℕ) → n < length new → (node_at new n).level ≡ 0 → (node_at new n).children ≡ []
    leaves n there z = by (split n there)
      where
        old_one : n < length old → (n ≡ tip) ⊎ (n ≡ tip → ⊥) → (node_at new n).children ≡ []
        old_one n_old (inl is) = let l : (node_at old n).level ≡ level + 1 = ap (λ k. (node_at old k).level) is ∙ high in absurd (omega (arith, l, (shapes n n_old).level, z))
        old_one n_old (inr ne) = ap (λ (x : Node). x.children) (step.others n n_old ne) ∙ h.leaves n n_old (sym (shapes n n_old).level ∙ z)

        by : (n < length old) ⊎ (n ≡ length old) → (node_at new n).children ≡ []
        by (inl n_old) = old_one n_old (cases_eq n tip)
        by (inr is) = ap (λ k. (node_at new k).children) is ∙ c_children

    -- an old child of an old node
    kept : (n d : ℕ) → n < length old → IsAmong d (node_at old n).children → IsChild new n d
    kept n d there m = let k = h.children n d there m in record {
      there = omega (arith, k.there, step.len);
      names = (shapes d k.there).parent ∙ k.names;
      level = omega (arith, (shapes d k.there).level, (shapes n there).level, k.level);
    }

    fresh : IsChild new tip (length old)
    fresh = record { there = c_there; names = c_parent; level = omega (arith, c_level, (shapes tip h.newest_there).level, high) }

    children : (n d : ℕ) → n < length new → IsAmong d (node_at new n).children → IsChild new n d
    children n d there m = by (split n there)
      where
        of_tip : n < length old → n ≡ tip → IsAmong d (node_at old tip).children ⊎ (length old ≡ d) → IsChild new n d
        of_tip n_old is (inl k) = kept n d n_old (subst (λ x. IsAmong d (node_at old x).children) (sym is) k)
        of_tip n_old is (inr e) = subst (λ x. IsChild new x d) (sym is) (subst (λ x. IsChild new tip x) e fresh)

        old_one : n < length old → (n ≡ tip) ⊎ (n ≡ tip → ⊥) → IsChild new n d
        old_one n_old (inl is) = of_tip n_old is (among_split d (length old) (node_at old tip).children (subst (λ cs. IsAmong d cs) tip_children (subst (λ x. IsAmong d (node_at new x).children) is m)))
        old_one n_old (inr ne) = kept n d n_old (subst (λ (x : Node). IsAmong d x.children) (step.others n n_old ne) m)

        by : (n < length old) ⊎ (n ≡ length old) → IsChild new n d
        by (inl n_old) = old_one n_old (cases_eq n tip)
        by (inr is) = absurd (subst (λ cs. IsAmong d cs) (ap (λ k. (node_at new k).children) is ∙ c_children) m)

    -- an old child is still among its parent's children
    still : (p n : ℕ) → p < length old → IsAmong n (node_at old p).children → IsAmong n (node_at new p).children
    still p n there m = by (cases_eq p tip)
      where
        by : (p ≡ tip) ⊎ (p ≡ tip → ⊥) → IsAmong n (node_at new p).children
        by (inl is) = subst (λ k. IsAmong n (node_at new k).children) (sym is) (subst (λ cs. IsAmong n cs) (sym tip_children) (among_left n (node_at old tip).children (length old ∷ []) (subst (λ k. IsAmong n (node_at old k).children) is m)))
        by (inr ne) = subst (λ (x : Node). IsAmong n x.children) (sym (step.others p there ne)) m

    parents : (n p : ℕ) → n < length new → (node_at new n).parent ≡ Some p → IsParent new p n
    parents n p there e = by (split n there)
      where
        by : (n < length old) ⊎ (n ≡ length old) → IsParent new p n
        by (inl n_old) = let k = h.parents n p n_old (sym (shapes n n_old).parent ∙ e) in record { there = omega (arith, k.there, step.len); names = still p n k.there k.names }
        by (inr is) =
            let both : Some tip ≡ Some p = sym c_parent ∙ (ap (λ k. (node_at new k).parent) (sym is) ∙ e) in
            let same : tip ≡ p = ap (λ (o : Option ℕ). unwrap_or o tip) both in
            record {
              there = omega (arith, same, h.newest_there, step.len);
              names = subst (λ k. IsAmong n (node_at new k).children) same (subst (λ cs. IsAmong n cs) (sym tip_children) (subst (λ k. IsAmong k ((node_at old tip).children ++ length old ∷ [])) (sym is) (among_new (length old) (node_at old tip).children)));
            }

    ranges_kept : (n to : ℕ) → n < length old → AreAdjacent old (node_at old n).start (node_at old n).children to → AreAdjacent new (node_at old n).start (node_at old n).children to
    ranges_kept n to there a = adjacent_same old new (node_at old n).start (node_at old n).children to (λ d m. let s = shapes d (h.children n d there m).there in record { start = s.start; ends = s.ends }) a

    both_open : end_of (node_at new (length old)) + 1 ≡ end_of (node_at new tip) + 1
    both_open = last_at_none (node_at new (length old)).end (ap (λ (x : Node). x.end) step.child) ∙ sym (last_at_none (node_at new tip).end ((shapes tip h.newest_there).ends ∙ h.newest_open))

    ranges : (n : ℕ) → n < length new → n ≢ length old → 0 < (node_at new n).level → AreAdjacent new (node_at new n).start (node_at new n).children (end_of (node_at new n) + 1)
    ranges n there ne pos = by (split n there)
      where
        pos_old : n < length old → 0 < (node_at old n).level
        pos_old n_old = omega (arith, (shapes n n_old).level)

        old_one : n < length old → (n ≡ tip) ⊎ (n ≡ tip → ⊥) → AreAdjacent new (node_at new n).start (node_at new n).children (end_of (node_at new n) + 1)
        old_one n_old (inl is) = subst (λ k. AreAdjacent new (node_at new k).start (node_at new k).children (end_of (node_at new k) + 1)) (sym is)
            (moved new (node_at old tip).start (node_at new tip).start ((node_at old tip).children ++ length old ∷ []) (node_at new tip).children (end_of (node_at new tip) + 1) (end_of (node_at new tip) + 1) (sym (shapes tip h.newest_there).start) (sym tip_children) refl
            (adjacent_push new (node_at old tip).start (node_at old tip).children (length old) (greatest + 1) (end_of (node_at new tip) + 1)
            (ranges_kept tip (greatest + 1) h.newest_there (h.newest_range (subst (λ k. 0 < (node_at old k).level) is (pos_old n_old)))) (ap (λ (x : Node). x.start) step.child) both_open))
        old_one n_old (inr other) = let s = shapes n n_old in
            moved new (node_at old n).start (node_at new n).start (node_at old n).children (node_at new n).children (end_of (node_at old n) + 1) (end_of (node_at new n) + 1) (sym s.start) (ap (λ (x : Node). x.children) (sym (step.others n n_old other))) (ap (λ (x : Node). end_of x + 1) (sym (step.others n n_old other)))
            (ranges_kept n (end_of (node_at old n) + 1) n_old (h.ranges n n_old other (pos_old n_old)))

        by : (n < length old) ⊎ (n ≡ length old) → AreAdjacent new (node_at new n).start (node_at new n).children (end_of (node_at new n) + 1)
        by (inl n_old) = old_one n_old (cases_eq n tip)
        by (inr is) = absurd (ne is)

    ordered : (n : ℕ) → n < length new → (node_at new n).start ≤ end_of (node_at new n)
    ordered n there = by (split n there)
      where
        by : (n < length old) ⊎ (n ≡ length old) → (node_at new n).start ≤ end_of (node_at new n)
        by (inl n_old) = let s = shapes n n_old in subst (λ k. k ≤ end_of (node_at new n)) (sym s.start) (subst (λ (o : Option ℕ). (node_at old n).start ≤ unwrap_or o (TIME_END - 1)) (sym s.ends) (h.ordered n n_old))
        by (inr is) = subst (λ k. (node_at new k).start ≤ end_of (node_at new k)) (sym is) (omega (arith, ap (λ (x : Node). x.start) step.child, last_at_none (node_at new (length old)).end (ap (λ (x : Node). x.end) step.child), lt))

    closed : (n e : ℕ) → n < length new → (node_at new n).end ≡ Some e → e ≤ greatest
    closed n e there is_end = by (split n there)
      where
        by : (n < length old) ⊎ (n ≡ length old) → e ≤ greatest
        by (inl n_old) = h.closed n e n_old (sym (shapes n n_old).ends ∙ is_end)
        by (inr is) = let both : None ≡ Some e = sym (ap (λ (x : Node). x.end) step.child) ∙ (ap (λ k. (node_at new k).end) (sym is) ∙ is_end) in absurd (cc)

pub rooted_grown_below : (old new : List Node) (root tip level start : ℕ) → IsGrownBelow old new tip level start → IsRooted old root → tip < length old → (node_at old tip).level ≡ level + 1 → IsRooted new root
rooted_grown_below old new root tip level start step h tip_there high = record {
  there = omega (arith, step.len, h.there);
  none = (shapes root h.there).parent ∙ h.none;
  alone = λ n there e. alone n (old_or_new n (length old) (omega (arith, step.len))) e;
  first = (shapes root h.there).start ∙ h.first;
  highest = λ n there ne. highest n (old_or_new n (length old) (omega (arith, step.len))) ne;
  few_levels = omega (arith, (shapes root h.there).level, step.len, h.few_levels);
  root_open = (shapes root h.there).ends ∙ h.root_open;
}
  where
    shapes : (n : ℕ) → n < length old → HasSameShape old new n
    shapes = below_shapes old new tip level start step

    alone : (n : ℕ) → (n < length old) ⊎ (n ≡ length old) → (node_at new n).parent ≡ None → n ≡ root
    alone n (inl n_old) e = h.alone n n_old (sym (shapes n n_old).parent ∙ e)
    alone n (inr is) e = let both : Some tip ≡ None = sym (ap (λ (x : Node). x.parent) step.child) ∙ (ap (λ k. (node_at new k).parent) (sym is) ∙ e) in absurd (cc)

    tip_low : (tip ≡ root) ⊎ (tip ≡ root → ⊥) → (node_at old tip).level ≤ (node_at old root).level
    tip_low (inl is) = let l : (node_at old tip).level ≡ (node_at old root).level = ap (λ k. (node_at old k).level) is in omega (arith, l)
    tip_low (inr ne) = omega (arith, h.highest tip tip_there ne)

    highest : (n : ℕ) → (n < length old) ⊎ (n ≡ length old) → n ≢ root → (node_at new n).level < (node_at new root).level
    highest n (inl n_old) ne = omega (arith, (shapes n n_old).level, (shapes root h.there).level, h.highest n n_old ne)
    highest n (inr is) ne = let l : (node_at new n).level ≡ level = ap (λ k. (node_at new k).level) is ∙ ap (λ (x : Node). x.level) step.child in omega (arith, l, (shapes root h.there).level, high, tip_low (cases_eq tip root))
