use Rattle.std.proofs.Common.{◌∷◌, sym, ap, ◌∙◌}
use Rattle.history_tree.specs.Ways.{way_on}
use Rattle.history_tree.proofs.Visiting.{children_there, visit_on, way_step}
use Rattle.history_tree.proofs.visit.Visit.next.Goals as goal

pub child_at-self-inside-requires-clause-children :
    goal.child_at-self-inside-requires-clause-children
child_at-self-inside-requires-clause-children c =
    children_there c.self.inside.nodes.now.nodes c.in_ok-number.number c.self.invariant.descended (c.self.invariant.there c.in_ok-number.number c.in_ok-number.was)

pub invariant_of-self : goal.invariant_of-self
invariant_of-self c =
    visit_on c.self.inside.nodes.now.nodes c.self.inside.t c.in_ok-number.number c.child_at-self-inside.result c.self.invariant.descended (c.self.invariant.there c.in_ok-number.number c.in_ok-number.was) c.child_at-self-inside.ensures

pub returns-clause-number : goal.returns-clause-number
returns-clause-number c =
    let nodes = c.self.inside.nodes.now.nodes in
    sym c.self.view_is ∙ (ap (way_on nodes c.self.inside.t) c.in_ok-number.was
    ∙ (way_step nodes c.self.inside.t c.in_ok-number.number c.self.invariant.descended (c.self.invariant.there c.in_ok-number.number c.in_ok-number.was)
    ∙ ap (λ o. c.in_ok-number.number ∷ way_on nodes c.self.inside.t o) (sym c.child_at-self-inside.ensures)))
