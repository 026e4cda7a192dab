-- One more record in an open node.
use Rattle.std.proofs.Common.{◌≡◌, ◌⊎◌, inl, inr, ℕ, ◌+◌, ◌-◌, ◌<◌, ◌≤◌, max, List, length, Option, None, sym, ap, ◌∙◌, subst, arith, set, length-set}
use Rattle.std.specs.Prelude.{unwrap_or}
use Rattle.std.specs.List.{AllByRecursion}
use Rattle.std.proofs.lemmas.Bool.{cases_eq}
use Rattle.trace_types.specs.declared.limits.TheConstants.{TIME_END}
use Rattle.history_nodes.specs.declared.interval.Interval.{Interval}
use Rattle.history_nodes.specs.declared.node.Node.{Node}
use Rattle.history_nodes.specs.declared.records.TheConstants.{MAX_RECORDS}
use Rattle.history_nodes.specs.Nodes.{node_at, end_of, with_record}
use Rattle.history_tree.specs.Records.{records_of, AreApart, IsApart}
use Rattle.history_tree.specs.Tree.{NodeTree, IsAmong}
use Rattle.history_tree.specs.Placement.{with_put}
use Rattle.history_tree.proofs.Steps.{at_set, at_other}
use Rattle.history_tree.proofs.Ranges.{adjacent_same, last_at_none}
use Rattle.history_tree.proofs.Nesting.{IsNesting, IsRooted, moved}
use Rattle.history_tree.proofs.Stored.{records_put, apart_between}
use Rattle.history_tree.proofs.Filling.{each_put}
use Rattle.history_tree.proofs.Trees.{IsGrown}

-- a node keeps all but its records
pub record HasSameOutline (old new : List Node) (n : ℕ) : Type 0 where
  pub parent : (node_at new n).parent ≡ (node_at old n).parent
  pub level : (node_at new n).level ≡ (node_at old n).level
  pub start : (node_at new n).start ≡ (node_at old n).start
  pub ends : (node_at new n).end ≡ (node_at old n).end
  pub children : (node_at new n).children ≡ (node_at old n).children

put_outlines : (nodes : List Node) (k : ℕ) (i : Interval) → k < length nodes → (n : ℕ) → HasSameOutline nodes (set nodes k (with_record i (node_at nodes k))) n
put_outlines nodes k i there n = by (cases_eq n k)
  where
    new : List Node
    new = set nodes k (with_record i (node_at nodes k))

    by : (n ≡ k) ⊎ (n ≡ k → ⊥) → HasSameOutline nodes new n
    by (inl is) = let e = at_set nodes k (with_record i (node_at nodes k)) there in subst (λ m. HasSameOutline nodes new m) (sym is) (record {
      parent = ap (λ (x : Node). x.parent) e;
      level = ap (λ (x : Node). x.level) e;
      start = ap (λ (x : Node). x.start) e;
      ends = ap (λ (x : Node). x.end) e;
      children = ap (λ (x : Node). x.children) e;
    })
    by (inr ne) = let e = at_other nodes k n (with_record i (node_at nodes k)) ne in record {
      parent = ap (λ (x : Node). x.parent) e;
      level = ap (λ (x : Node). x.level) e;
      start = ap (λ (x : Node). x.start) e;
      ends = ap (λ (x : Node). x.end) e;
      children = ap (λ (x : Node). x.children) e;
    }

nesting_outlines : (old new : List Node) (tip greatest later : ℕ) → length new ≡ length old → ((n : ℕ) → HasSameOutline old new n) → greatest ≤ later → (node_at old tip).level ≡ 0 → IsNesting old tip greatest → IsNesting new tip later
nesting_outlines old new tip greatest later len same le z h = record {
  leaves = λ n there e. (same n).children ∙ h.leaves n (old_there n there) (sym (same n).level ∙ e);
  children = λ n c there m. let k = h.children n c (old_there n there) (subst (λ cs. IsAmong c cs) (same n).children m) in record {
    there = omega (arith, k.there, len);
    names = (same c).parent ∙ k.names;
    level = omega (arith, (same c).level, (same n).level, k.level);
  };
  parents = λ n p there e. let k = h.parents n p (old_there n there) (sym (same n).parent ∙ e) in record {
    there = omega (arith, k.there, len);
    names = subst (λ cs. IsAmong n cs) (sym (same p).children) k.names;
  };
  ranges = λ n there ne pos. moved new (node_at old n).start (node_at new n).start (node_at old n).children (node_at new n).children (end_of (node_at old n) + 1) (end_of (node_at new n) + 1)
      (sym (same n).start) (sym (same n).children) (ap (λ (o : Option ℕ). unwrap_or o (TIME_END - 1) + 1) (sym (same n).ends))
      (adjacent_same old new (node_at old n).start (node_at old n).children (end_of (node_at old n) + 1) (λ c m. record { start = (same c).start; ends = (same c).ends })
      (h.ranges n (old_there n there) ne (omega (arith, (same n).level))));
  newest_range = λ pos. absurd (omega (arith, (same tip).level, z));
  ordered = λ n there. subst (λ k. k ≤ end_of (node_at new n)) (sym (same n).start) (subst (λ (o : Option ℕ). (node_at old n).start ≤ unwrap_or o (TIME_END - 1)) (sym (same n).ends) (h.ordered n (old_there n there)));
  closed = λ n e there is_end. omega (arith, h.closed n e (old_there n there) (sym (same n).ends ∙ is_end), le);
  newest_there = omega (arith, h.newest_there, len);
  newest_open = (same tip).ends ∙ h.newest_open;
}
  where
    old_there : (n : ℕ) → n < length new → n < length old
    old_there n there = omega (arith, len)

rooted_outlines : (old new : List Node) (root : ℕ) → length new ≡ length old → ((n : ℕ) → HasSameOutline old new n) → IsRooted old root → IsRooted new root
rooted_outlines old new root len same r = record {
  there = omega (arith, r.there, len);
  none = (same root).parent ∙ r.none;
  alone = λ n there e. r.alone n (omega (arith, len)) (sym (same n).parent ∙ e);
  first = (same root).start ∙ r.first;
  highest = λ n there ne. omega (arith, (same root).level, (same n).level, r.highest n (omega (arith, len)) ne);
  few_levels = omega (arith, (same root).level, len, r.few_levels);
  root_open = (same root).ends ∙ r.root_open;
}

pub put_grown : (t : NodeTree) (n : ℕ) (i : Interval) → IsGrown t → n < length t.nodes → (node_at t.nodes n).end ≡ None → (node_at t.nodes n).start ≤ i.start → length (node_at t.nodes n).intervals < MAX_RECORDS → AllByRecursion (IsApart i) (records_of t.nodes) → IsGrown (with_put i n t)
put_grown t n i g there is_open begun room apart = record {
  filled = record {
    each = each_put t.greatest (max t.greatest i.end) n i t.nodes (omega arith) (omega arith) room
        (record { begins = begun; ends = let e : end_of (node_at t.nodes n) + 1 ≡ TIME_END = last_at_none (node_at t.nodes n).end is_open in omega (arith, e, i.followed) }) g.filled.each;
    apart = let b = records_put t.nodes n i there in subst AreApart (sym b.after) (apart_between b.front b.back i (subst AreApart b.before g.filled.apart) (subst (λ is. AllByRecursion (IsApart i) is) b.before apart));
  };
  nesting = nesting_outlines t.nodes new t.leaf t.greatest (max t.greatest i.end) len same (omega arith) g.leaf_level g.nesting;
  rooted = rooted_outlines t.nodes new t.root len same g.rooted;
  leaf_level = (same t.leaf).level ∙ g.leaf_level;
  followed = omega (arith, g.followed, i.followed);
}
  where
    new : List Node
    new = set t.nodes n (with_record i (node_at t.nodes n))

    len : length new ≡ length t.nodes
    len = length-set t.nodes n (with_record i (node_at t.nodes n))

    same : (m : ℕ) → HasSameOutline t.nodes new m
    same = put_outlines t.nodes n i there
