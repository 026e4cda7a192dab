-- Ends of nodes along a chain, one after the other.
use Rattle.std.proofs.Common.{◌≡◌, ◌≢◌, inl, inr, ℕ, ◌<◌, List, [], ◌∷◌, length, None, Some, refl, sym, ap, ◌∙◌, subst, arith, set}
use Rattle.history_nodes.specs.declared.node.Node.{Node}
use Rattle.history_nodes.specs.Nodes.{node_at, ended}
use Rattle.history_tree.specs.Tree.{IsAmong}
use Rattle.history_tree.specs.Placement.{LeadUp, all_ended}
use Rattle.history_tree.specs.Climbing.{AreClimbed, AreOpen}
use Rattle.history_tree.proofs.Steps.{at_other}
use Rattle.history_tree.proofs.Growing.{ended_stays}
use Rattle.history_tree.proofs.Climbs.{height, same_some, lead_begins, lead_same}

-- a chain that begins below the node that it ends at
pub record Begins (nodes : List Node) (from top : ℕ) : Type 0 where
  pub rest : List ℕ
  pub parent : (above : ℕ) × ((node_at nodes from).parent ≡ Some above)
  pub there : from < length nodes
  pub unended : (node_at nodes from).end ≡ None
  pub fresh : IsAmong from rest → ⊥
  pub up : LeadUp nodes (node_at nodes from).parent rest (Some top)
  pub goes_on : AreOpen nodes rest

begins : (nodes : List Node) (from top : ℕ) (ns : List ℕ) → from ≢ top → LeadUp nodes (Some from) ns (Some top) → AreOpen nodes ns → Begins nodes from top
begins nodes from top [] ne up o = absurd (ne (same_some from top up))
begins nodes from top (n ∷ ns) ne up o = subst (λ k. Begins nodes k top) (sym (same_some from n up.0)) (record { rest = ns; parent = lead_begins nodes (node_at nodes n).parent ns top up.1; there = o.0; unended = o.1; fresh = o.2; up = up.1; goes_on = o.3 })

open_after : (nodes : List Node) (n end : ℕ) (ns : List ℕ) → n < length nodes → (IsAmong n ns → ⊥) → AreOpen nodes ns → AreOpen (set nodes n (ended end (node_at nodes n))) ns
open_after nodes n end [] there fresh o = tt
open_after nodes n end (m ∷ ns) there fresh o = (
  omega (arith, (ended_stays nodes n end there).len, o.0),
  ap (λ (x : Node). x.end) (at_other nodes n m (ended end (node_at nodes n)) (λ e. fresh (inl e))) ∙ o.1,
  o.2,
  open_after nodes n end ns there (λ k. fresh (inr k)) o.3,
)

climbed_after : (nodes : List Node) (n end : ℕ) → n < length nodes → AreClimbed nodes → AreClimbed (set nodes n (ended end (node_at nodes n)))
climbed_after nodes n end there c =
    let s = ended_stays nodes n end there in
    record {
      parents = λ m p lt e. let a = c.parents m p (omega (arith, s.len)) (sym (s.parent m) ∙ e) in record { there = omega (arith, s.len, a.there); level = omega (arith, s.level p, s.level m, a.level) };
      few = λ m lt. omega (arith, s.len, s.level m, c.few m (omega (arith, s.len)));
    }

-- the node above is nearer to the number of nodes
pub goes_up : (nodes : List Node) (from above end : ℕ) → AreClimbed nodes → from < length nodes → (node_at nodes from).parent ≡ Some above → height (set nodes from (ended end (node_at nodes from))) (Some above) < height nodes (Some from)
goes_up nodes from above end c there e =
    let s = ended_stays nodes from end there in
    let a = c.parents from above there e in
    omega (arith, s.len, s.level above, a.level, c.few from there)

-- the chain before the first node ended
chain_before : (nodes : List Node) (from above top end : ℕ) (ns : List ℕ) → from < length nodes → (node_at nodes from).parent ≡ Some above → LeadUp (set nodes from (ended end (node_at nodes from))) (Some above) ns (Some top) → LeadUp nodes (Some from) (from ∷ ns) (Some top)
chain_before nodes from above top end ns there e up =
    let s = ended_stays nodes from end there in
    (refl, subst (λ o. LeadUp nodes o ns (Some top)) (sym e) (lead_same (set nodes from (ended end (node_at nodes from))) nodes (Some above) ns (Some top) (λ n. sym (s.parent n)) up))

-- ---- up a chain
-- these are left to end; ending a chain from here is ending one from the first node, in the nodes before
pub record IsClosing (old nodes : List Node) (from number top end : ℕ) : Type 0 where
  pub climbed : AreClimbed nodes
  pub numbers : List ℕ
  pub up : LeadUp nodes (Some number) numbers (Some top)
  pub unended : AreOpen nodes numbers
  pub whole : (ms : List ℕ) → LeadUp nodes (Some number) ms (Some top) → (ns : List ℕ) × LeadUp old (Some from) ns (Some top) × (all_ended end ms nodes ≡ all_ended end ns old)

pub closing_begins : (nodes : List Node) (from top end : ℕ) (ns : List ℕ) → AreClimbed nodes → LeadUp nodes (Some from) ns (Some top) → AreOpen nodes ns → IsClosing nodes nodes from from top end
closing_begins nodes from top end ns c up o = record { climbed = c; numbers = ns; up = up; unended = o; whole = λ ms h. (ms, h, refl) }

pub closing_here : (old nodes : List Node) (from number top end : ℕ) → IsClosing old nodes from number top end → number ≢ top → Begins nodes number top
closing_here old nodes from number top end c ne = begins nodes number top c.numbers ne c.up c.unended

-- after one more node has ended
pub closing_on : (old nodes : List Node) (from number above top end : ℕ) → IsClosing old nodes from number top end → Begins nodes number top → (node_at nodes number).parent ≡ Some above → IsClosing old (set nodes number (ended end (node_at nodes number))) from above top end
closing_on old nodes from number above top end c b e =
    let s = ended_stays nodes number end b.there in
    record {
      climbed = climbed_after nodes number end b.there c.climbed;
      numbers = b.rest;
      up = lead_same nodes (set nodes number (ended end (node_at nodes number))) (Some above) b.rest (Some top) s.parent (subst (λ o. LeadUp nodes o b.rest (Some top)) e b.up);
      unended = open_after nodes number end b.rest b.there b.fresh b.goes_on;
      whole = λ ms up. c.whole (number ∷ ms) (chain_before nodes number above top end ms b.there e up);
    }

-- at the end of the chain
pub closing_ends : (old nodes : List Node) (from number top end : ℕ) → IsClosing old nodes from number top end → number ≡ top → (ns : List ℕ) × LeadUp old (Some from) ns (Some top) × (nodes ≡ all_ended end ns old)
closing_ends old nodes from number top end c e = c.whole [] (ap Some e)
