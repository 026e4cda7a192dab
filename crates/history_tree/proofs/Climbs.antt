-- Chains of nodes that lead up.
use Rattle.std.proofs.Common.{◌≡◌, ◌⊎◌, inl, inr, ℕ, ◌-◌, ◌<◌, ◌≤◌, Bool, false, List, [], ◌∷◌, length, Option, None, Some, refl, sym, ap, subst, arith}
use Rattle.std.specs.Prelude.{unwrap_or}
use Rattle.history_nodes.specs.declared.node.Node.{Node}
use Rattle.history_nodes.specs.Nodes.{node_at}
use Rattle.history_tree.specs.Tree.{IsAmong}
use Rattle.history_tree.specs.Placement.{LeadUp, IsFirst}
use Rattle.history_tree.specs.Climbing.{AreClimbed}

-- how far a node is below the number of nodes
abbrev pub height : List Node → Option ℕ → ℕ
height nodes None = 0
height nodes (Some n) = length nodes - (node_at nodes n).level

pub same_some : (n m : ℕ) → Some n ≡ Some m → n ≡ m
same_some n m e = ap (λ (o : Option ℕ). unwrap_or o n) e

-- a chain that ends at a node begins at one
pub lead_begins : (nodes : List Node) (from : Option ℕ) (ns : List ℕ) (to : ℕ) → LeadUp nodes from ns (Some to) → (n : ℕ) × (from ≡ Some n)
lead_begins nodes from [] to h = (to, h)
lead_begins nodes from (n ∷ ns) to h = (n, h.0)

-- a chain goes by parents alone
pub lead_same : (old new : List Node) (from : Option ℕ) (ns : List ℕ) (to : Option ℕ) → ((n : ℕ) → (node_at new n).parent ≡ (node_at old n).parent) → LeadUp old from ns to → LeadUp new from ns to
lead_same old new from [] to same h = h
lead_same old new from (n ∷ ns) to same h = (h.0, lead_same old new (node_at new n).parent ns to same (subst (λ o. LeadUp old o ns to) (sym (same n)) h.1))

-- levels rise along a chain
pub lead_levels : (nodes : List Node) → AreClimbed nodes → (from : ℕ) (ns : List ℕ) (to : Option ℕ) (k : ℕ) → from < length nodes → LeadUp nodes (Some from) ns to → IsAmong k ns → (node_at nodes from).level ≤ (node_at nodes k).level
lead_levels nodes c from [] to k there h m = absurd m
lead_levels nodes c from (n ∷ ns) to k there h m = by m (node_at nodes n).parent refl (λ p e g. lead_levels nodes c p ns to k ((c.parents n p n_there e).there) g)
  where
    is : from ≡ n
    is = same_some from n h.0

    n_there : n < length nodes
    n_there = subst (λ x. x < length nodes) is there

    level : (node_at nodes from).level ≡ (node_at nodes n).level
    level = ap (λ x. (node_at nodes x).level) is

    behind : (o : Option ℕ) → (node_at nodes n).parent ≡ o → IsAmong k ns → LeadUp nodes o ns to
        → ((p : ℕ) → (node_at nodes n).parent ≡ Some p → LeadUp nodes (Some p) ns to → IsAmong k ns → (node_at nodes p).level ≤ (node_at nodes k).level) → (node_at nodes from).level ≤ (node_at nodes k).level
    behind None e g l rest = none ns g l
      where
        none : (ms : List ℕ) → IsAmong k ms → LeadUp nodes None ms to → (node_at nodes from).level ≤ (node_at nodes k).level
        none [] x y = absurd x
        none (d ∷ ms) x y = absurd (cc (y.0))
    behind (Some p) e g l rest = omega (arith, level, (c.parents n p n_there e).level, rest p e l g)

    by : (n ≡ k) ⊎ IsAmong k ns → (o : Option ℕ) → (node_at nodes n).parent ≡ o
        → ((p : ℕ) → (node_at nodes n).parent ≡ Some p → LeadUp nodes (Some p) ns to → IsAmong k ns → (node_at nodes p).level ≤ (node_at nodes k).level) → (node_at nodes from).level ≤ (node_at nodes k).level
    by (inl e) o is_o rest = let l : (node_at nodes n).level ≡ (node_at nodes k).level = ap (λ x. (node_at nodes x).level) e in omega (arith, level, l)
    by (inr g) o is_o rest = behind o is_o g (subst (λ x. LeadUp nodes x ns to) is_o h.1) rest

-- the node that a chain ends at is no lower than the one it begins at
pub lead_to_level : (ns : List ℕ) (nodes : List Node) (from to : ℕ) → AreClimbed nodes → from < length nodes → LeadUp nodes (Some from) ns (Some to) → (node_at nodes from).level ≤ (node_at nodes to).level
lead_to_level [] nodes from to c there h = let l : (node_at nodes from).level ≡ (node_at nodes to).level = ap (λ k. (node_at nodes k).level) (same_some from to h) in omega (arith, l)
lead_to_level (n ∷ ns) nodes from to c there h = by (lead_begins nodes (node_at nodes n).parent ns to h.1) (λ p. lead_to_level ns nodes p to c)
  where
    is : from ≡ n
    is = same_some from n h.0

    by : (p : ℕ) × ((node_at nodes n).parent ≡ Some p) → ((p : ℕ) → p < length nodes → LeadUp nodes (Some p) ns (Some to) → (node_at nodes p).level ≤ (node_at nodes to).level) → (node_at nodes from).level ≤ (node_at nodes to).level
    by (p, e) rest =
        let a = c.parents n p (subst (λ k. k < length nodes) is there) e in
        let l : (node_at nodes from).level ≡ (node_at nodes n).level = ap (λ k. (node_at nodes k).level) is in
        omega (arith, l, a.level, rest p a.there (subst (λ o. LeadUp nodes o ns (Some to)) e h.1))

-- a parent is nearer to the number of nodes than its child
pub height_falls : (nodes : List Node) (n : ℕ) (o : Option ℕ) → AreClimbed nodes → n < length nodes → (node_at nodes n).parent ≡ o → height nodes o < height nodes (Some n)
height_falls nodes n None c there e = omega (arith, c.few n there)
height_falls nodes n (Some p) c there e = omega (arith, c.few n there, (c.parents n p there e).level)

-- where a node fails the test, the first above it is the first
pub first_above : (test : Node → Bool) (nodes : List Node) (n : ℕ) (from above found : Option ℕ) → from ≡ Some n → above ≡ (node_at nodes n).parent → test (node_at nodes n) ≡ false → IsFirst test nodes above found → IsFirst test nodes from found
first_above test nodes n from above found is up fails h = record {
  passed = n ∷ h.passed;
  up = (is, subst (λ o. LeadUp nodes o h.passed found) up h.up);
  fail = (fails, h.fail);
  pass = h.pass;
}
