use Rattle.std.proofs.Common.{◌<◌, ◌≤◌, ℕ}
use Rattle.critical_path.specs.Steps.{ForMerges, LeadsTo}
use Rattle.critical_path.proofs.holder.holder_at.Given as goal

abbrev pub invariant-loop-holder : goal.invariant-loop-holder
invariant-loop-holder l = record {
  leads : ForMerges l.graph (λ merged placed. (p : ℕ) → l.place ≤ p → p < l.until → LeadsTo merged placed l.host l.tid p l.followed);
  later : l.place < l.until;
}

abbrev pub decreases-loop-holder : goal.decreases-loop-holder
decreases-loop-holder l = l.followed.limit
