-- The way down from a node.
use Rattle.std.proofs.Common.{◌≡◌, inl, inr, ℕ, zero, suc, ◌+◌, ◌<◌, ◌≤◌, Bool, true, false, ◌&&◌, nat_le, List, [], ◌∷◌, length, get_or, All, find, cond, Option, None, Some, refl, sym, ap, ◌∙◌, subst, arith}
use Rattle.std.specs.Prelude.{unwrap_or}
use Rattle.std.proofs.lemmas.Bool.{leb-true, leb-false}
use Rattle.trace_types.specs.declared.limits.TheConstants.{TIME_END}
use Rattle.history_nodes.specs.declared.node.Node.{Node}
use Rattle.history_nodes.specs.Nodes.{node_at, end_of, holds}
use Rattle.history_tree.specs.Tree.{NodeTree, IsTree, IsAmong, AreAdjacent}
use Rattle.history_tree.specs.Ways.{LeadDown, IsWay, child_of, way_from, way_on, AreDescended, CanVisit}
use Rattle.history_tree.proofs.Ranges.{adjacent_within, last_at_none}

-- ---- children
pub get_among : (xs : List ℕ) (k d : ℕ) → k < length xs → IsAmong (get_or xs k d) xs
get_among [] k d h = absurd (omega arith)
get_among (x ∷ xs) zero d h = inl refl
get_among (x ∷ xs) (suc k) d h = inr (get_among xs k d (omega arith))

pub children_there : (nodes : List Node) (n : ℕ) → AreDescended nodes → n < length nodes → All (λ c. c < length nodes) (node_at nodes n).children
children_there nodes n a there k d h = (a.children n (get_or (node_at nodes n).children k d) there (get_among (node_at nodes n).children k d h)).there

-- one of these numbers passes the test
pub record IsPicked (test : ℕ → Bool) (xs : List ℕ) (c : ℕ) : Type 0 where
  pub among : IsAmong c xs
  pub passes : test c ≡ true

pub picked : (test : ℕ → Bool) (xs : List ℕ) (c : ℕ) → find test xs ≡ Some c → IsPicked test xs c
picked test [] c h = absurd (cc)
picked test (x ∷ xs) c h = by (test x) refl h (picked test xs c)
  where
    by : (b : Bool) → test x ≡ b → (cond b (Some x) (find test xs)) ≡ Some c → (find test xs ≡ Some c → IsPicked test xs c) → IsPicked test (x ∷ xs) c
    by true e g rest = let is : x ≡ c = ap (λ (o : Option ℕ). unwrap_or o x) g in record { among = inl is; passes = subst (λ k. test k ≡ true) is e }
    by false e g rest = let r = rest g in record { among = inr r.among; passes = r.passes }

-- the next node of a visit is there
pub visit_on : (nodes : List Node) (t n : ℕ) (next : Option ℕ) → AreDescended nodes → n < length nodes → next ≡ child_of nodes t n → CanVisit nodes next
visit_on nodes t n next a there is = record {
  descended = a;
  there = λ c e. (a.children n c there (picked (λ k. holds t (node_at nodes k)) (node_at nodes n).children c (sym is ∙ e)).among).there;
}

-- ---- one step down
pub way_step : (nodes : List Node) (t n : ℕ) → AreDescended nodes → n < length nodes → way_on nodes t (Some n) ≡ n ∷ way_on nodes t (child_of nodes t n)
way_step nodes t n a there = by (node_at nodes n).level refl
  where
    below : (o : Option ℕ) (k : ℕ) → ((c : ℕ) → o ≡ Some c → (node_at nodes c).level ≡ k) → way_from nodes t k o ≡ way_on nodes t o
    below None zero h = refl
    below None (suc k) h = refl
    below (Some c) k h = ap (λ l. way_from nodes t l (Some c)) (sym (h c refl))

    by : (k : ℕ) → (node_at nodes n).level ≡ k → way_from nodes t (node_at nodes n).level (Some n) ≡ n ∷ way_on nodes t (child_of nodes t n)
    by zero e = ap (λ l. way_from nodes t l (Some n)) e ∙ ap (λ cs. n ∷ way_on nodes t (find (λ k. holds t (node_at nodes k)) cs)) (sym (a.leaves n there e))
    by (suc k) e = ap (λ l. way_from nodes t l (Some n)) e ∙ ap (λ ns. n ∷ ns) (below (child_of nodes t n) k
        (λ c is. let b = a.children n c there (picked (λ k. holds t (node_at nodes k)) (node_at nodes n).children c is).among in omega (arith, b.level, e)))

-- ---- ranges that hold an instant
pub holds_start : (t : ℕ) (x : Node) → holds t x ≡ true → x.start ≤ t
holds_start t x h = leb-true x.start t (left (nat_le x.start t) (nat_le t (end_of x)) h)
  where
    left : (a b : Bool) → (a && b) ≡ true → a ≡ true
    left true b g = refl
    left false b g = g

pub holds_end : (t : ℕ) (x : Node) → holds t x ≡ true → t ≤ end_of x
holds_end t x h = leb-true t (end_of x) (right (nat_le x.start t) (nat_le t (end_of x)) h)
  where
    right : (a b : Bool) → (a && b) ≡ true → b ≡ true
    right true b g = g
    right false b g = absurd (cc)

pub holds_it : (t : ℕ) (x : Node) → x.start ≤ t → t ≤ end_of x → holds t x ≡ true
holds_it t x s e = both (nat_le x.start t) (nat_le t (end_of x)) (by (nat_le x.start t) refl) (by' (nat_le t (end_of x)) refl)
  where
    both : (a b : Bool) → a ≡ true → b ≡ true → (a && b) ≡ true
    both true b p q = q
    both false b p q = absurd (cc)

    by : (b : Bool) → nat_le x.start t ≡ b → nat_le x.start t ≡ true
    by true p = p
    by false p = absurd (omega (arith, leb-false x.start t p))

    by' : (b : Bool) → nat_le t (end_of x) ≡ b → nat_le t (end_of x) ≡ true
    by' true p = p
    by' false p = absurd (omega (arith, leb-false t (end_of x) p))

-- of adjacent ranges one holds each instant between their ends
pub one_holds : (nodes : List Node) (from t : ℕ) (cs : List ℕ) (to : ℕ) → AreAdjacent nodes from cs to → from ≤ t → t < to → (c : ℕ) × (find (λ k. holds t (node_at nodes k)) cs ≡ Some c)
one_holds nodes from t [] to h le lt = absurd (omega (arith, h))
one_holds nodes from t (c ∷ cs) to h le lt = by (holds t (node_at nodes c)) refl (λ g. one_holds nodes (end_of (node_at nodes c) + 1) t cs to h.1 g lt)
  where
    past : holds t (node_at nodes c) ≡ false → end_of (node_at nodes c) + 1 ≤ t
    past e = le_past (nat_le t (end_of (node_at nodes c))) refl
      where
        le_past : (b : Bool) → nat_le t (end_of (node_at nodes c)) ≡ b → end_of (node_at nodes c) + 1 ≤ t
        le_past true p = let yes' : holds t (node_at nodes c) ≡ true = holds_it t (node_at nodes c) (omega (arith, h.0)) (leb-true t (end_of (node_at nodes c)) p) in absurd (cc)
        le_past false p = omega (arith, leb-false t (end_of (node_at nodes c)) p)

    by : (b : Bool) → holds t (node_at nodes c) ≡ b → (end_of (node_at nodes c) + 1 ≤ t → (d : ℕ) × (find (λ k. holds t (node_at nodes k)) cs ≡ Some d)) → (d : ℕ) × (cond (holds t (node_at nodes c)) (Some c) (find (λ k. holds t (node_at nodes k)) cs) ≡ Some d)
    by true e rest = (c, rw e refl)
    by false e rest = let r = rest (past e) in (r.0, rw e r.1)

-- and no other
pub only_holds : (nodes : List Node) (from t : ℕ) (cs : List ℕ) (to c d : ℕ) → ((k : ℕ) → IsAmong k cs → (node_at nodes k).start ≤ end_of (node_at nodes k)) → AreAdjacent nodes from cs to → IsAmong c cs → IsAmong d cs → holds t (node_at nodes c) ≡ true → holds t (node_at nodes d) ≡ true → c ≡ d
only_holds nodes from t [] to c d some h mc md hc hd = absurd mc
only_holds nodes from t (x ∷ xs) to c d some h (inl ec) (inl ed) hc hd = sym ec ∙ ed
only_holds nodes from t (x ∷ xs) to c d some h (inl ec) (inr md) hc hd =
    let w = adjacent_within nodes (end_of (node_at nodes x) + 1) xs to d (λ k m. some k (inr m)) h.1 md in
    let l : end_of (node_at nodes x) ≡ end_of (node_at nodes c) = ap (λ k. end_of (node_at nodes k)) ec in
    absurd (omega (arith, w.begins, l, holds_end t (node_at nodes c) hc, holds_start t (node_at nodes d) hd))
only_holds nodes from t (x ∷ xs) to c d some h (inr mc) (inl ed) hc hd =
    let w = adjacent_within nodes (end_of (node_at nodes x) + 1) xs to c (λ k m. some k (inr m)) h.1 mc in
    let l : end_of (node_at nodes x) ≡ end_of (node_at nodes d) = ap (λ k. end_of (node_at nodes k)) ed in
    absurd (omega (arith, w.begins, l, holds_end t (node_at nodes d) hd, holds_start t (node_at nodes c) hc))
only_holds nodes from t (x ∷ xs) to c d some h (inr mc) (inr md) hc hd = only_holds nodes (end_of (node_at nodes x) + 1) t xs to c d (λ k m. some k (inr m)) h.1 mc md hc hd

-- ---- the way of a tree
pub descended : (t : NodeTree) → IsTree t → AreDescended t.nodes
descended t h = record {
  children = λ n c there m. let k = h.nested.children n c there m in record { there = k.there; level = k.level };
  leaves = h.nested.leaves;
}

-- a way that begins at a node
pub record LeadsFrom (t : NodeTree) (time n : ℕ) (way : List ℕ) : Type 0 where
  pub rest : List ℕ
  pub begins : way ≡ n ∷ rest
  pub down : LeadDown t.nodes time n rest

leads_from : (k : ℕ) (t : NodeTree) (time n : ℕ) → IsTree t → (node_at t.nodes n).level ≡ k → n < length t.nodes → holds time (node_at t.nodes n) ≡ true → LeadsFrom t time n (way_from t.nodes time k (Some n))
leads_from zero t time n h e there on = record { rest = []; begins = refl; down = e }
leads_from (suc k) t time n h e there on = by found (λ c. leads_from k t time c h)
  where
    found : (c : ℕ) × (child_of t.nodes time n ≡ Some c)
    found = one_holds t.nodes (node_at t.nodes n).start time (node_at t.nodes n).children (end_of (node_at t.nodes n) + 1) (h.nested.ranges n there (omega (arith, e))) (holds_start time (node_at t.nodes n) on) (omega (arith, holds_end time (node_at t.nodes n) on))

    by : (c : ℕ) × (child_of t.nodes time n ≡ Some c) → ((c : ℕ) → (node_at t.nodes c).level ≡ k → c < length t.nodes → holds time (node_at t.nodes c) ≡ true → LeadsFrom t time c (way_from t.nodes time k (Some c))) → LeadsFrom t time n (n ∷ way_from t.nodes time k (child_of t.nodes time n))
    by (c, is) rest =
        let p = picked (λ k. holds time (node_at t.nodes k)) (node_at t.nodes n).children c is in
        let b = h.nested.children n c there p.among in
        let r = rest c (omega (arith, b.level, e)) b.there p.passes in
        record {
          rest = c ∷ r.rest;
          begins = ap (λ ns. n ∷ ns) (ap (way_from t.nodes time k) is ∙ r.begins);
          down = (p.among, p.passes, r.down);
        }

pub root_holds : (t : NodeTree) (time : ℕ) → IsTree t → time < TIME_END → holds time (node_at t.nodes t.root) ≡ true
root_holds t time h lt = holds_it time (node_at t.nodes t.root) (omega (arith, h.nested.root_first)) (let e = last_at_none (node_at t.nodes t.root).end h.latest.root_open in omega (arith, e))

pub is_way : (t : NodeTree) (time : ℕ) (way : List ℕ) → IsTree t → time < TIME_END → way ≡ way_on t.nodes time (Some t.root) → IsWay t time way
is_way t time way h lt is =
    let r = leads_from (node_at t.nodes t.root).level t time t.root h refl h.nested.root_there (root_holds t time h lt) in
    subst (λ w. IsWay t time w) (sym (is ∙ r.begins)) (refl, r.down)
