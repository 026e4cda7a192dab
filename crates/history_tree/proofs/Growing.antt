-- Trees that grow: by ends along a branch, and by new nodes.
use Rattle.std.proofs.Common.{◌≡◌, ◌≢◌, ◌⊎◌, inl, inr, ℕ, zero, suc, ◌+◌, ◌<◌, ◌≤◌, List, [], ◌∷◌, length, Option, None, Some, refl, sym, ap, ◌∙◌, subst, arith, set, length-set}
use Rattle.std.proofs.lemmas.Bool.{cases_eq}
use Rattle.std.proofs.Math.Nat.{eq-zero-or-pos}
use Rattle.trace_types.specs.declared.limits.TheConstants.{TIME_END}
use Rattle.history_nodes.specs.declared.node.Node.{Node}
use Rattle.history_nodes.specs.Nodes.{node_at, end_of, ended}
use Rattle.history_tree.specs.Tree.{IsAmong}
use Rattle.history_tree.specs.Placement.{LeadUp, all_ended, with_branch, with_child_node}
use Rattle.history_tree.specs.Climbing.{AreClimbed, AreOpen}
use Rattle.history_tree.proofs.Steps.{IsEnded, is_ended, IsGrownBelow, is_grown_below, IsGrownAbove}
use Rattle.history_tree.proofs.Ranges.{adjacent_within, last_at_none, none_at_last, end_within}
use Rattle.history_tree.proofs.Nesting.{IsNesting, IsRooted, ended_links, nesting_ended, rooted_ended, child_differs}
use Rattle.history_tree.proofs.GrowingBelow.{nesting_grown_below, rooted_grown_below}
use Rattle.history_tree.proofs.Climbs.{same_some, lead_begins, lead_same, lead_levels}

-- ---- what nesting says of parents
pub climbed : (nodes : List Node) (tip greatest root : ℕ) → IsNesting nodes tip greatest → IsRooted nodes root → AreClimbed nodes
climbed nodes tip greatest root h r = record {
  parents = λ n p there e. let u = h.parents n p there e in let d = h.children p n u.there u.names in record { there = u.there; level = sym d.level };
  few = λ n there. few n there (cases_eq n root);
}
  where
    few : (n : ℕ) → n < length nodes → (n ≡ root) ⊎ (n ≡ root → ⊥) → (node_at nodes n).level < length nodes
    few n there (inl is) = subst (λ k. (node_at nodes k).level < length nodes) (sym is) r.few_levels
    few n there (inr ne) = omega (arith, r.highest n there ne, r.few_levels)

-- a parent doesn't begin after its child
pub parent_begins : (nodes : List Node) (tip greatest n p : ℕ) → IsNesting nodes tip greatest → n < length nodes → p ≢ tip → (node_at nodes n).parent ≡ Some p → (node_at nodes p).start ≤ (node_at nodes n).start
parent_begins nodes tip greatest n p h there ne e =
    let u = h.parents n p there e in
    let d = h.children p n u.there u.names in
    (adjacent_within nodes (node_at nodes p).start (node_at nodes p).children (end_of (node_at nodes p) + 1) n (λ c m. h.ordered c (h.children p c u.there m).there) (h.ranges p u.there ne (omega (arith, d.level))) u.names).begins

-- where a child has no end, neither has its parent
pub parent_open : (nodes : List Node) (tip greatest n p : ℕ) → IsNesting nodes tip greatest → greatest + 1 < TIME_END → n < length nodes → p ≢ tip → (node_at nodes n).parent ≡ Some p → (node_at nodes n).end ≡ None → (node_at nodes p).end ≡ None
parent_open nodes tip greatest n p h lt there ne e is_open =
    let u = h.parents n p there e in
    let d = h.children p n u.there u.names in
    let within = adjacent_within nodes (node_at nodes p).start (node_at nodes p).children (end_of (node_at nodes p) + 1) n (λ c m. h.ordered c (h.children p c u.there m).there) (h.ranges p u.there ne (omega (arith, d.level))) u.names in
    none_at_last (node_at nodes p).end greatest (λ x is. h.closed p x u.there is) lt
    (let a : end_of (node_at nodes p) + 1 ≤ TIME_END = end_within (node_at nodes p).end greatest (λ x is. h.closed p x u.there is) lt in
    let b : end_of (node_at nodes n) + 1 ≡ TIME_END = last_at_none (node_at nodes n).end is_open in omega (arith, within.ends))

-- ---- ends along a branch
-- what stays where nodes end
pub record StaysLinked (old new : List Node) : Type 0 where
  pub len : length new ≡ length old
  pub parent : (n : ℕ) → (node_at new n).parent ≡ (node_at old n).parent
  pub level : (n : ℕ) → (node_at new n).level ≡ (node_at old n).level
  pub children : (n : ℕ) → (node_at new n).children ≡ (node_at old n).children

pub ended_stays : (nodes : List Node) (n e : ℕ) → n < length nodes → StaysLinked nodes (set nodes n (ended e (node_at nodes n)))
ended_stays nodes n e there =
    let links = ended_links nodes (set nodes n (ended e (node_at nodes n))) n e (is_ended nodes n e there) in
    record { len = length-set nodes n (ended e (node_at nodes n)); parent = λ m. (links m).parent; level = λ m. (links m).level; children = λ m. (links m).children }

-- a tree whose nodes have ended along a branch
pub record HasGrown (old new : List Node) (tip root greatest : ℕ) : Type 0 where
  pub nesting : IsNesting new tip greatest
  pub rooted : IsRooted new root
  pub stays : StaysLinked old new

pub all_end : (ns : List ℕ) (nodes : List Node) (tip top root greatest : ℕ) → greatest + 1 < TIME_END → LeadUp nodes (Some tip) ns (Some top) → IsNesting nodes tip greatest → IsRooted nodes root → (node_at nodes tip).start ≤ greatest → HasGrown nodes (all_ended greatest ns nodes) top root greatest
all_end [] nodes tip top root greatest lt up h r begun = subst (λ k. HasGrown nodes nodes k root greatest) (same_some tip top up) (record { nesting = h; rooted = r; stays = record { len = refl; parent = λ n. refl; level = λ n. refl; children = λ n. refl } })
all_end (n ∷ ns) nodes tip top root greatest lt up h r begun = by (lead_begins nodes (node_at nodes n).parent ns top up.1) (λ next p. all_end ns next p top root greatest lt)
  where
    is : tip ≡ n
    is = same_some tip n up.0

    there : n < length nodes
    there = subst (λ k. k < length nodes) is h.newest_there

    next : List Node
    next = set nodes n (ended greatest (node_at nodes n))

    step : IsEnded nodes next n greatest
    step = is_ended nodes n greatest there

    stays : StaysLinked nodes next
    stays = ended_stays nodes n greatest there

    by : (p : ℕ) × ((node_at nodes n).parent ≡ Some p) → ((step : List Node) (p : ℕ) → LeadUp step (Some p) ns (Some top) → IsNesting step p greatest → IsRooted step root → (node_at step p).start ≤ greatest → HasGrown step (all_ended greatest ns step) top root greatest) → HasGrown nodes (all_ended greatest ns next) top root greatest
    by (p, e) rest =
        let h' : IsNesting nodes n greatest = subst (λ k. IsNesting nodes k greatest) is h in
        let begun' : (node_at nodes n).start ≤ greatest = subst (λ k. (node_at nodes k).start ≤ greatest) is begun in
        let u = h'.parents n p there e in
        let ne : p ≢ n = λ x. child_differs nodes p n (h'.children p n u.there u.names) (sym x) in
        let links = ended_links nodes next n greatest step in
        let done = rest next p (lead_same nodes next (Some p) ns (Some top) (λ m. (links m).parent) (subst (λ o. LeadUp nodes o ns (Some top)) e up.1))
        (nesting_ended nodes next n p greatest step h' lt e begun') (rooted_ended nodes next root n p greatest step r e)
        (omega (arith, (links p).start, parent_begins nodes n greatest n p h' there ne e, begun')) in
        record {
          nesting = done.nesting;
          rooted = done.rooted;
          stays = record {
            len = done.stays.len ∙ stays.len;
            parent = λ m. done.stays.parent m ∙ stays.parent m;
            level = λ m. done.stays.level m ∙ stays.level m;
            children = λ m. done.stays.children m ∙ stays.children m;
          };
        }

-- ---- a new branch
pub record HasBranch (old new : List Node) (tip leaf level root greatest : ℕ) : Type 0 where
  pub nesting : IsNesting new leaf greatest
  pub rooted : IsRooted new root
  pub len : length new ≡ length old + level
  pub leaf_level : (node_at new leaf).level ≡ 0
  pub lowest : level ≡ 0 → leaf ≡ tip
  pub newest : 0 < level → leaf + 1 ≡ length new

pub branch : (level : ℕ) (nodes : List Node) (tip root greatest : ℕ) → greatest + 1 < TIME_END → (node_at nodes tip).level ≡ level → IsNesting nodes tip greatest → IsRooted nodes root → (leaf : ℕ) × HasBranch nodes (with_branch tip level (greatest + 1) nodes) tip leaf level root greatest
branch zero nodes tip root greatest lt z h r = (tip, record { nesting = h; rooted = r; len = omega arith; leaf_level = z; lowest = λ e. refl; newest = λ pos. absurd (omega arith) })
branch (suc level) nodes tip root greatest lt high h r = by (branch level next (length nodes) root greatest lt)
  where
    next : List Node
    next = with_child_node tip level (greatest + 1) nodes

    step : IsGrownBelow nodes next tip level (greatest + 1)
    step = is_grown_below nodes tip level (greatest + 1) h.newest_there

    last : (leaf : ℕ) → HasBranch next (with_branch (length nodes) level (greatest + 1) next) (length nodes) leaf level root greatest → (level ≡ 0) ⊎ (0 < level) → leaf + 1 ≡ length (with_branch (length nodes) level (greatest + 1) next)
    last leaf b (inl e) = omega (arith, b.lowest e, b.len, step.len, e)
    last leaf b (inr pos) = b.newest pos

    by : ((node_at next (length nodes)).level ≡ level → IsNesting next (length nodes) greatest → IsRooted next root → (leaf : ℕ) × HasBranch next (with_branch (length nodes) level (greatest + 1) next) (length nodes) leaf level root greatest)
        → (leaf : ℕ) × HasBranch nodes (with_branch (length nodes) level (greatest + 1) next) tip leaf (suc level) root greatest
    by rest =
        let more : (node_at nodes tip).level ≡ level + 1 = omega (arith, high) in
        let l : (node_at next (length nodes)).level ≡ level = ap (λ (x : Node). x.level) step.child in
        let done = rest l (nesting_grown_below nodes next tip level greatest step h lt more) (rooted_grown_below nodes next root tip level (greatest + 1) step r h.newest_there more) in
        let b = done.1 in (
          done.0,
          record {
            nesting = b.nesting;
            rooted = b.rooted;
            len = omega (arith, b.len, step.len);
            leaf_level = b.leaf_level;
            lowest = λ e. absurd (omega arith);
            newest = λ pos. last done.0 b (eq-zero-or-pos level);
          },
        )

-- ---- a new root, and the chain up to it
pub lead_to_root : (ns : List ℕ) (old new : List Node) (root tip greatest n : ℕ) → IsGrownAbove old new root → IsNesting old tip greatest → IsRooted old root → n < length old → LeadUp old (Some n) ns None → LeadUp new (Some n) ns (Some (length old))
lead_to_root [] old new root tip greatest n step h r there up = absurd (cc)
lead_to_root (m ∷ ns) old new root tip greatest n step h r there up = (up.0, by (node_at old m).parent refl up.1 (λ p e g. lead_to_root ns old new root tip greatest p step h r (h.parents m p m_there e).there g))
  where
    m_there : m < length old
    m_there = subst (λ k. k < length old) (same_some n m up.0) there

    -- the root's parent is the new root, and the chain ended there
    ended_there : (ms : List ℕ) → (node_at old m).parent ≡ None → LeadUp old None ms None → LeadUp new (node_at new m).parent ms (Some (length old))
    ended_there [] e g = ap (λ k. (node_at new k).parent) (r.alone m m_there e) ∙ ap (λ (x : Node). x.parent) step.below
    ended_there (k ∷ ms) e g = absurd (cc (g.0))

    by : (o : Option ℕ) → (node_at old m).parent ≡ o → LeadUp old (node_at old m).parent ns None
        → ((p : ℕ) → (node_at old m).parent ≡ Some p → LeadUp old (Some p) ns None → LeadUp new (Some p) ns (Some (length old))) → LeadUp new (node_at new m).parent ns (Some (length old))
    by None e g rest = ended_there ns e (subst (λ o. LeadUp old o ns None) e g)
    by (Some p) e g rest =
        let ne : m ≢ root = λ is. let both : None ≡ Some p = sym r.none ∙ (ap (λ k. (node_at old k).parent) (sym is) ∙ e) in absurd (cc) in
        subst (λ o. LeadUp new o ns (Some (length old))) (sym (ap (λ (x : Node). x.parent) (step.others m m_there ne) ∙ e)) (rest p e (subst (λ o. LeadUp old o ns None) e g))

-- ---- the nodes of a chain from the newest leaf have no end
pub lead_open : (ns : List ℕ) (nodes : List Node) (tip root greatest n : ℕ) (to : Option ℕ) → greatest + 1 < TIME_END → IsNesting nodes tip greatest → IsRooted nodes root → (node_at nodes tip).level ≡ 0 → n < length nodes → (node_at nodes n).end ≡ None → LeadUp nodes (Some n) ns to → AreOpen nodes ns
lead_open [] nodes tip root greatest n to lt h r z there is_open up = tt
lead_open (m ∷ ns) nodes tip root greatest n to lt h r z there is_open up =
    (m_there, m_open, fresh, by (node_at nodes m).parent refl up.1 (λ p e g. lead_open ns nodes tip root greatest p to lt h r z (h.parents m p m_there e).there (opens p e) g))
  where
    m_there : m < length nodes
    m_there = subst (λ k. k < length nodes) (same_some n m up.0) there

    m_open : (node_at nodes m).end ≡ None
    m_open = subst (λ k. (node_at nodes k).end ≡ None) (same_some n m up.0) is_open

    opens : (p : ℕ) → (node_at nodes m).parent ≡ Some p → (node_at nodes p).end ≡ None
    opens p e =
        let u = h.parents m p m_there e in
        let d = h.children p m u.there u.names in
        let ne : p ≢ tip = λ is. let l : (node_at nodes p).level ≡ 0 = ap (λ k. (node_at nodes k).level) is ∙ z in absurd (omega (arith, d.level, l)) in
        parent_open nodes tip greatest m p h lt m_there ne e m_open

    behind : (o : Option ℕ) → (node_at nodes m).parent ≡ o → LeadUp nodes o ns to → IsAmong m ns → ⊥
    behind None e g k = none ns g k
      where
        none : (ms : List ℕ) → LeadUp nodes None ms to → IsAmong m ms → ⊥
        none [] x y = y
        none (d ∷ ms) x y = absurd (cc (x.0))
    behind (Some p) e g k = let c = climbed nodes tip greatest root h r in omega (arith, lead_levels nodes c p ns to m ((c.parents m p m_there e).there) g k, (c.parents m p m_there e).level)

    fresh : IsAmong m ns → ⊥
    fresh k = behind (node_at nodes m).parent refl up.1 k

    by : (o : Option ℕ) → (node_at nodes m).parent ≡ o → LeadUp nodes (node_at nodes m).parent ns to → ((p : ℕ) → (node_at nodes m).parent ≡ Some p → LeadUp nodes (Some p) ns to → AreOpen nodes ns) → AreOpen nodes ns
    by None e g rest = none ns (subst (λ o. LeadUp nodes o ns to) e g)
      where
        none : (ms : List ℕ) → LeadUp nodes None ms to → AreOpen nodes ms
        none [] x = tt
        none (d ∷ ms) x = absurd (cc (x.0))
    by (Some p) e g rest = rest p e (subst (λ o. LeadUp nodes o ns to) e g)

-- where a chain ends at a node, that one has no end either
pub lead_to_open : (ns : List ℕ) (nodes : List Node) (tip greatest n to : ℕ) → greatest + 1 < TIME_END → IsNesting nodes tip greatest → (node_at nodes tip).level ≡ 0 → n < length nodes → (node_at nodes n).end ≡ None → LeadUp nodes (Some n) ns (Some to) → (to < length nodes) × ((node_at nodes to).end ≡ None)
lead_to_open [] nodes tip greatest n to lt h z there is_open up = (subst (λ k. k < length nodes) (same_some n to up) there, subst (λ k. (node_at nodes k).end ≡ None) (same_some n to up) is_open)
lead_to_open (m ∷ ns) nodes tip greatest n to lt h z there is_open up = by (lead_begins nodes (node_at nodes m).parent ns to up.1) (λ p. lead_to_open ns nodes tip greatest p to lt h z)
  where
    m_there : m < length nodes
    m_there = subst (λ k. k < length nodes) (same_some n m up.0) there

    m_open : (node_at nodes m).end ≡ None
    m_open = subst (λ k. (node_at nodes k).end ≡ None) (same_some n m up.0) is_open

    by : (p : ℕ) × ((node_at nodes m).parent ≡ Some p) → ((p : ℕ) → p < length nodes → (node_at nodes p).end ≡ None → LeadUp nodes (Some p) ns (Some to) → (to < length nodes) × ((node_at nodes to).end ≡ None)) → (to < length nodes) × ((node_at nodes to).end ≡ None)
    by (p, e) rest =
        let u = h.parents m p m_there e in
        let d = h.children p m u.there u.names in
        let ne : p ≢ tip = λ is. let l : (node_at nodes p).level ≡ 0 = ap (λ k. (node_at nodes k).level) is ∙ z in absurd (omega (arith, d.level, l)) in
        rest p u.there (parent_open nodes tip greatest m p h lt m_there ne e m_open) (subst (λ o. LeadUp nodes o ns (Some to)) e up.1)
