use Rattle.std.proofs.Common.{sym, subst, ◌+◌, ◌++◌, ◌∷◌, []}
use Rattle.history_tree.specs.Records.{content_of}
use Rattle.history_core.specs.Intervals.{Parts, parts_of, AreKept}
use Rattle.history_core.specs.Stands.{HistoryModel, CanFollow, Stands}
use Rattle.history_core.proofs.Keeping.{kept_taken}
use Rattle.history_core.proofs.Standing.{stands_taken, with_parts}
use Rattle.history_core.proofs.history.History.apply.Goals as goal

pub invariant_of-self-2 : goal.invariant_of-self-2
invariant_of-self-2 c =
    let follows = subst (λ (h : HistoryModel). CanFollow h.paths h.built c.args.step) (sym c.self.view_is) c.requires.follows in
    subst (λ (p : Parts). AreKept p.paths p.closed p.opened p.built) (sym c.in_ok-take.ensures.ok)
    (kept_taken (parts_of c.self.inside.attributes.paths (content_of c.self.inside.tree.nodes) c.self.inside.opened.intervals c.self.inside.built) c.args.step c.self.invariant follows)

pub returns-clause-stands : goal.returns-clause-stands
returns-clause-stands c = λ steps stands.
    let follows = subst (λ (h : HistoryModel). CanFollow h.paths h.built c.args.step) (sym c.self.view_is) c.requires.follows in
    let tree = c.take.new.tree in
    subst (λ (p : Parts). Stands (steps ++ c.args.step ∷ []) (with_parts p (c.self.inside.count + 1) tree)) (sym c.in_ok-take.ensures.ok)
    (stands_taken (parts_of c.self.inside.attributes.paths (content_of c.self.inside.tree.nodes) c.self.inside.opened.intervals c.self.inside.built) c.self.inside.count steps c.self.inside.tree tree c.self.invariant (subst (Stands steps) (sym c.self.view_is) stands) c.args.step follows)
