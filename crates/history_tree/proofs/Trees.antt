-- A tree, by what stays true while it grows.
use Rattle.std.proofs.Common.{◌≡◌, ◌≢◌, inl, inr, ℕ, ◌+◌, ◌<◌, ◌≤◌, List, [], ◌∷◌, length, None, Some, refl, sym, ap, ◌∙◌, subst, arith}
use Rattle.trace_types.specs.declared.limits.TheConstants.{TIME_END}
use Rattle.history_nodes.specs.declared.node.Node.{Node}
use Rattle.history_nodes.specs.Nodes.{node_at, end_of}
use Rattle.history_tree.specs.Tree.{NodeTree, IsAmong, IsLast, AreAdjacent, AreFilled, IsTree}
use Rattle.history_tree.proofs.Ranges.{last_at_none, none_at_last, end_within}
use Rattle.history_tree.proofs.Nesting.{IsNesting, IsRooted}
use Rattle.history_tree.proofs.Growing.{parent_open}

-- a tree, as a growing one whose newest node is a leaf
pub record IsGrown (t : NodeTree) : Type 0 where
  pub filled : AreFilled t.nodes t.greatest
  pub nesting : IsNesting t.nodes t.leaf t.greatest
  pub rooted : IsRooted t.nodes t.root
  pub leaf_level : (node_at t.nodes t.leaf).level ≡ 0
  pub followed : t.greatest + 1 < TIME_END

pub grown_tree : (t : NodeTree) → IsTree t → IsGrown t
grown_tree t h = record {
  filled = h.filled;
  nesting = record {
    leaves = h.nested.leaves;
    children = h.nested.children;
    parents = h.nested.parents;
    ranges = λ n there ne pos. h.nested.ranges n there pos;
    newest_range = λ pos. absurd (omega (arith, h.latest.leaf_level));
    ordered = h.nested.ordered;
    closed = h.latest.closed;
    newest_there = h.latest.leaf_there;
    newest_open = h.latest.leaf_open;
  };
  rooted = record {
    there = h.nested.root_there;
    none = (h.nested.root_alone t.root h.nested.root_there).1 refl;
    alone = λ n there e. (h.nested.root_alone n there).0 e;
    first = h.nested.root_first;
    highest = h.nested.root_highest;
    few_levels = h.nested.few_levels;
    root_open = h.latest.root_open;
  };
  leaf_level = h.latest.leaf_level;
  followed = h.followed;
}

-- ---- the last of adjacent ranges
last_among : (nodes : List Node) (from : ℕ) (cs : List ℕ) (to n : ℕ) → AreAdjacent nodes from cs to → IsAmong n cs → end_of (node_at nodes n) + 1 ≡ TIME_END → ((c : ℕ) → IsAmong c cs → (node_at nodes c).start + 1 ≤ TIME_END) → IsLast n cs
last_among nodes from [] to n h m e below = absurd m
last_among nodes from (c ∷ []) to n h (inl is) e below = is
last_among nodes from (c ∷ []) to n h (inr m) e below = absurd m
last_among nodes from (c ∷ d ∷ cs) to n h (inl is) e below =
    let big : end_of (node_at nodes c) + 1 ≡ TIME_END = ap (λ k. end_of (node_at nodes k) + 1) is ∙ e in absurd (omega (arith, big, h.1.0, below d (inr (inl refl))))
last_among nodes from (c ∷ d ∷ cs) to n h (inr m) e below = last_among nodes (end_of (node_at nodes c) + 1) (d ∷ cs) to n h.1 m e (λ k g. below k (inr g))

last_ends : (nodes : List Node) (from : ℕ) (cs : List ℕ) (to n : ℕ) → AreAdjacent nodes from cs to → IsLast n cs → end_of (node_at nodes n) + 1 ≡ to
last_ends nodes from [] to n h l = absurd l
last_ends nodes from (c ∷ []) to n h l = ap (λ k. end_of (node_at nodes k) + 1) (sym l) ∙ h.1
last_ends nodes from (c ∷ d ∷ cs) to n h l = last_ends nodes (end_of (node_at nodes c) + 1) (d ∷ cs) to n h.1 l

pub tree_grown : (t : NodeTree) → IsGrown t → IsTree t
tree_grown t g = record {
  filled = g.filled;
  nested = record {
    leaves = h.leaves;
    inner = λ n there pos e. let a : AreAdjacent t.nodes (node_at t.nodes n).start [] (end_of (node_at t.nodes n) + 1) = subst (λ cs. AreAdjacent t.nodes (node_at t.nodes n).start cs (end_of (node_at t.nodes n) + 1)) e (ranges n there pos) in absurd (omega (arith, a, h.ordered n there));
    children = h.children;
    parents = h.parents;
    ranges = ranges;
    ordered = h.ordered;
    root_there = r.there;
    root_alone = λ n there. (r.alone n there, λ is. ap (λ k. (node_at t.nodes k).parent) is ∙ r.none);
    root_first = r.first;
    root_highest = r.highest;
    few_levels = r.few_levels;
  };
  latest = record {
    root_open = r.root_open;
    unended = λ n p there e. (
      (λ o. (parent_open t.nodes t.leaf t.greatest n p h g.followed there (not_leaf n p there e) e o, last n p there e o)),
      (λ k. none_at_last (node_at t.nodes n).end t.greatest (λ x is. h.closed n x there is) g.followed
          (last_ends t.nodes (node_at t.nodes p).start (node_at t.nodes p).children (end_of (node_at t.nodes p) + 1) n (above n p there e) k.1 ∙ last_at_none (node_at t.nodes p).end k.0)),
    );
    closed = h.closed;
    leaf_there = h.newest_there;
    leaf_open = h.newest_open;
    leaf_level = g.leaf_level;
  };
  followed = g.followed;
}
  where
    h : IsNesting t.nodes t.leaf t.greatest
    h = g.nesting

    r : IsRooted t.nodes t.root
    r = g.rooted

    high : (n : ℕ) → 0 < (node_at t.nodes n).level → n ≢ t.leaf
    high n pos is = let l : (node_at t.nodes n).level ≡ 0 = ap (λ k. (node_at t.nodes k).level) is ∙ g.leaf_level in absurd (omega (arith, l))

    ranges : (n : ℕ) → n < length t.nodes → 0 < (node_at t.nodes n).level → AreAdjacent t.nodes (node_at t.nodes n).start (node_at t.nodes n).children (end_of (node_at t.nodes n) + 1)
    ranges n there pos = h.ranges n there (high n pos) pos

    parent_high : (n p : ℕ) → n < length t.nodes → (node_at t.nodes n).parent ≡ Some p → 0 < (node_at t.nodes p).level
    parent_high n p there e = let u = h.parents n p there e in let d = h.children p n u.there u.names in omega (arith, d.level)

    not_leaf : (n p : ℕ) → n < length t.nodes → (node_at t.nodes n).parent ≡ Some p → p ≢ t.leaf
    not_leaf n p there e = high p (parent_high n p there e)

    above : (n p : ℕ) → n < length t.nodes → (node_at t.nodes n).parent ≡ Some p → AreAdjacent t.nodes (node_at t.nodes p).start (node_at t.nodes p).children (end_of (node_at t.nodes p) + 1)
    above n p there e = ranges p (h.parents n p there e).there (parent_high n p there e)

    last : (n p : ℕ) → n < length t.nodes → (node_at t.nodes n).parent ≡ Some p → (node_at t.nodes n).end ≡ None → IsLast n (node_at t.nodes p).children
    last n p there e o =
        let u = h.parents n p there e in
        last_among t.nodes (node_at t.nodes p).start (node_at t.nodes p).children (end_of (node_at t.nodes p) + 1) n (above n p there e) u.names (last_at_none (node_at t.nodes n).end o)
        (λ c m. let k = h.children p c u.there m in omega (arith, h.ordered c k.there, end_within (node_at t.nodes c).end t.greatest (λ x is. h.closed c x k.there is) g.followed))
