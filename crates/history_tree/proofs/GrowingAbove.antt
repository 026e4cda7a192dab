-- A new root above the old one.
use Rattle.std.proofs.Common.{◌≡◌, ◌≢◌, ◌⊎◌, inl, inr, ℕ, ◌+◌, ◌-◌, ◌<◌, ◌≤◌, List, [], ◌∷◌, length, Option, None, Some, refl, sym, ap, ◌∙◌, subst, arith}
use Rattle.std.specs.Prelude.{unwrap_or}
use Rattle.std.proofs.lemmas.Bool.{cases_eq}
use Rattle.trace_types.specs.declared.limits.TheConstants.{TIME_END}
use Rattle.history_nodes.specs.declared.node.Node.{Node}
use Rattle.history_nodes.specs.Nodes.{node_at, end_of}
use Rattle.history_tree.specs.Tree.{IsAmong, AreAdjacent, IsChild, IsParent}
use Rattle.history_tree.proofs.Steps.{IsGrownAbove}
use Rattle.history_tree.proofs.Ranges.{adjacent_same, last_at_none}
use Rattle.history_tree.proofs.Nesting.{IsNesting, IsRooted, moved}
use Rattle.history_tree.proofs.GrowingBelow.{old_or_new}

-- what an old node keeps
pub record HasSameCore (old new : List Node) (n : ℕ) : Type 0 where
  pub level : (node_at new n).level ≡ (node_at old n).level
  pub start : (node_at new n).start ≡ (node_at old n).start
  pub ends : (node_at new n).end ≡ (node_at old n).end
  pub children : (node_at new n).children ≡ (node_at old n).children

pub above_cores : (old new : List Node) (root : ℕ) → IsGrownAbove old new root → (n : ℕ) → n < length old → HasSameCore old new n
above_cores old new root step n there = by (cases_eq n root)
  where
    by : (n ≡ root) ⊎ (n ≡ root → ⊥) → HasSameCore old new n
    by (inl is) = subst (λ m. HasSameCore old new m) (sym is) (record {
      level = ap (λ (x : Node). x.level) step.below;
      start = ap (λ (x : Node). x.start) step.below;
      ends = ap (λ (x : Node). x.end) step.below;
      children = ap (λ (x : Node). x.children) step.below;
    })
    by (inr ne) = let e = step.others n there ne in record {
      level = ap (λ (x : Node). x.level) e;
      start = ap (λ (x : Node). x.start) e;
      ends = ap (λ (x : Node). x.end) e;
      children = ap (λ (x : Node). x.children) e;
    }

pub nesting_grown_above : (old new : List Node) (root tip greatest : ℕ) → IsGrownAbove old new root → IsNesting old tip greatest → IsRooted old root → IsNesting new tip greatest
nesting_grown_above old new root tip greatest step h r = record {
  leaves = leaves;
  children = children;
  parents = parents;
  ranges = ranges;
  newest_range = λ pos. let k = cores tip h.newest_there in moved new (node_at old tip).start (node_at new tip).start (node_at old tip).children (node_at new tip).children (greatest + 1) (greatest + 1) (sym k.start) (sym k.children) refl (ranges_kept tip (greatest + 1) h.newest_there (h.newest_range (omega (arith, k.level))));
  ordered = ordered;
  closed = closed;
  newest_there = omega (arith, step.len, h.newest_there);
  newest_open = (cores tip h.newest_there).ends ∙ h.newest_open;
}
  where
    cores : (n : ℕ) → n < length old → HasSameCore old new n
    cores = above_cores old new root step

    split : (n : ℕ) → n < length new → (n < length old) ⊎ (n ≡ length old)
    split n there = old_or_new n (length old) (omega (arith, step.len))

    top_level : (node_at new (length old)).level ≡ (node_at old root).level + 1
    top_level = ap (λ (x : Node). x.level) step.above

    top_children : (node_at new (length old)).children ≡ root ∷ []
    top_children = ap (λ (x : Node). x.children) step.above

    root_parent : (node_at new root).parent ≡ Some (length old)
    root_parent = ap (λ (x : Node). x.parent) step.below

    leaves : (n : ℕ) → n < length new → (node_at new n).level ≡ 0 → (node_at new n).children ≡ []
    leaves n there z = by (split n there)
      where
        by : (n < length old) ⊎ (n ≡ length old) → (node_at new n).children ≡ []
        by (inl n_old) = let k = cores n n_old in k.children ∙ h.leaves n n_old (sym k.level ∙ z)
        by (inr is) = let l : (node_at new n).level ≡ (node_at old root).level + 1 = ap (λ k. (node_at new k).level) is ∙ top_level in absurd (omega (arith, l, z))

    children : (n d : ℕ) → n < length new → IsAmong d (node_at new n).children → IsChild new n d
    children n d there m = by (split n there)
      where
        of_top : n ≡ length old → IsAmong d (root ∷ []) → IsChild new n d
        of_top is (inl e) = subst (λ x. IsChild new x d) (sym is) (subst (λ x. IsChild new (length old) x) e (record {
          there = omega (arith, step.len, r.there);
          names = root_parent;
          level = omega (arith, top_level, (cores root r.there).level);
        }))
        of_top is (inr k) = absurd k

        by : (n < length old) ⊎ (n ≡ length old) → IsChild new n d
        by (inl n_old) =
            let k = h.children n d n_old (subst (λ cs. IsAmong d cs) (cores n n_old).children m) in
            let ne : d ≢ root = λ e. let both : Some n ≡ None = sym k.names ∙ (ap (λ x. (node_at old x).parent) e ∙ r.none) in absurd (cc) in
            record {
              there = omega (arith, k.there, step.len);
              names = ap (λ (x : Node). x.parent) (step.others d k.there ne) ∙ k.names;
              level = omega (arith, (cores d k.there).level, (cores n n_old).level, k.level);
            }
        by (inr is) = of_top is (subst (λ cs. IsAmong d cs) (ap (λ k. (node_at new k).children) is ∙ top_children) m)

    parents : (n p : ℕ) → n < length new → (node_at new n).parent ≡ Some p → IsParent new p n
    parents n p there e = by (split n there)
      where
        old_one : n < length old → (n ≡ root) ⊎ (n ≡ root → ⊥) → IsParent new p n
        old_one n_old (inl is) =
            let both : Some (length old) ≡ Some p = sym root_parent ∙ (ap (λ k. (node_at new k).parent) (sym is) ∙ e) in
            let same : length old ≡ p = ap (λ (o : Option ℕ). unwrap_or o p) both in
            record {
              there = omega (arith, same, step.len);
              names = subst (λ k. IsAmong n (node_at new k).children) same (subst (λ cs. IsAmong n cs) (sym top_children) (inl (sym is)));
            }
        old_one n_old (inr ne) =
            let k = h.parents n p n_old (sym (ap (λ (x : Node). x.parent) (step.others n n_old ne)) ∙ e) in
            record { there = omega (arith, k.there, step.len); names = subst (λ cs. IsAmong n cs) (sym (cores p k.there).children) k.names }

        by : (n < length old) ⊎ (n ≡ length old) → IsParent new p n
        by (inl n_old) = old_one n_old (cases_eq n root)
        by (inr is) = let both : None ≡ Some p = sym (ap (λ (x : Node). x.parent) step.above) ∙ (ap (λ k. (node_at new k).parent) (sym is) ∙ e) in absurd (cc)

    ranges_kept : (n to : ℕ) → n < length old → AreAdjacent old (node_at old n).start (node_at old n).children to → AreAdjacent new (node_at old n).start (node_at old n).children to
    ranges_kept n to there a = adjacent_same old new (node_at old n).start (node_at old n).children to (λ d m. let s = cores d (h.children n d there m).there in record { start = s.start; ends = s.ends }) a

    ranges : (n : ℕ) → n < length new → n ≢ tip → 0 < (node_at new n).level → AreAdjacent new (node_at new n).start (node_at new n).children (end_of (node_at new n) + 1)
    ranges n there ne pos = by (split n there)
      where
        by : (n < length old) ⊎ (n ≡ length old) → AreAdjacent new (node_at new n).start (node_at new n).children (end_of (node_at new n) + 1)
        by (inl n_old) = let k = cores n n_old in
            moved new (node_at old n).start (node_at new n).start (node_at old n).children (node_at new n).children (end_of (node_at old n) + 1) (end_of (node_at new n) + 1) (sym k.start) (sym k.children) (ap (λ (o : Option ℕ). unwrap_or o (TIME_END - 1) + 1) (sym k.ends))
            (ranges_kept n (end_of (node_at old n) + 1) n_old (h.ranges n n_old ne (omega (arith, k.level))))
        by (inr is) = let k = cores root r.there in subst (λ x. AreAdjacent new (node_at new x).start (node_at new x).children (end_of (node_at new x) + 1)) (sym is)
            (moved new 0 (node_at new (length old)).start (root ∷ []) (node_at new (length old)).children (end_of (node_at new (length old)) + 1) (end_of (node_at new (length old)) + 1) (ap (λ (x : Node). x.start) (sym step.above)) (sym top_children) refl
            (k.start ∙ r.first, last_at_none (node_at new root).end (k.ends ∙ r.root_open) ∙ sym (last_at_none (node_at new (length old)).end (ap (λ (x : Node). x.end) step.above))))

    ordered : (n : ℕ) → n < length new → (node_at new n).start ≤ end_of (node_at new n)
    ordered n there = by (split n there)
      where
        by : (n < length old) ⊎ (n ≡ length old) → (node_at new n).start ≤ end_of (node_at new n)
        by (inl n_old) = let s = cores n n_old in subst (λ k. k ≤ end_of (node_at new n)) (sym s.start) (subst (λ (o : Option ℕ). (node_at old n).start ≤ unwrap_or o (TIME_END - 1)) (sym s.ends) (h.ordered n n_old))
        by (inr is) = subst (λ k. (node_at new k).start ≤ end_of (node_at new k)) (sym is) (omega (arith, ap (λ (x : Node). x.start) step.above))

    closed : (n e : ℕ) → n < length new → (node_at new n).end ≡ Some e → e ≤ greatest
    closed n e there is_end = by (split n there)
      where
        by : (n < length old) ⊎ (n ≡ length old) → e ≤ greatest
        by (inl n_old) = h.closed n e n_old (sym (cores n n_old).ends ∙ is_end)
        by (inr is) = let both : None ≡ Some e = sym (ap (λ (x : Node). x.end) step.above) ∙ (ap (λ k. (node_at new k).end) (sym is) ∙ is_end) in absurd (cc)

pub rooted_grown_above : (old new : List Node) (root : ℕ) → IsGrownAbove old new root → IsRooted old root → IsRooted new (length old)
rooted_grown_above old new root step h = record {
  there = omega (arith, step.len);
  none = ap (λ (x : Node). x.parent) step.above;
  alone = λ n there e. alone n (old_or_new n (length old) (omega (arith, step.len))) e;
  first = ap (λ (x : Node). x.start) step.above;
  highest = λ n there ne. highest n (old_or_new n (length old) (omega (arith, step.len))) ne;
  few_levels = omega (arith, top_level, step.len, h.few_levels);
  root_open = ap (λ (x : Node). x.end) step.above;
}
  where
    cores : (n : ℕ) → n < length old → HasSameCore old new n
    cores = above_cores old new root step

    top_level : (node_at new (length old)).level ≡ (node_at old root).level + 1
    top_level = ap (λ (x : Node). x.level) step.above

    alone : (n : ℕ) → (n < length old) ⊎ (n ≡ length old) → (node_at new n).parent ≡ None → n ≡ length old
    alone n (inl n_old) e = by (cases_eq n root)
      where
        by : (n ≡ root) ⊎ (n ≡ root → ⊥) → n ≡ length old
        by (inl is) = let both : Some (length old) ≡ None = sym (ap (λ (x : Node). x.parent) step.below) ∙ (ap (λ k. (node_at new k).parent) (sym is) ∙ e) in absurd (cc)
        by (inr ne) = absurd (ne (h.alone n n_old (sym (ap (λ (x : Node). x.parent) (step.others n n_old ne)) ∙ e)))
    alone n (inr is) e = is

    highest : (n : ℕ) → (n < length old) ⊎ (n ≡ length old) → n ≢ length old → (node_at new n).level < (node_at new (length old)).level
    highest n (inl n_old) ne = by (cases_eq n root)
      where
        by : (n ≡ root) ⊎ (n ≡ root → ⊥) → (node_at new n).level < (node_at new (length old)).level
        by (inl is) = let l : (node_at new n).level ≡ (node_at old root).level = (cores n n_old).level ∙ ap (λ k. (node_at old k).level) is in omega (arith, l, top_level)
        by (inr other) = omega (arith, (cores n n_old).level, top_level, h.highest n n_old other)
    highest n (inr is) ne = absurd (ne is)
