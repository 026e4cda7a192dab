use Rattle.std.proofs.Common.{find, sym, ap, ◌∙◌}
use Rattle.history_nodes.specs.declared.node.Node.{Node}
use Rattle.history_nodes.specs.Intervals.{is_of}
use Rattle.history_tree.specs.Tree.{tree_of}
use Rattle.history_tree.proofs.Seeking.{held_some}
use Rattle.history_tree.proofs.Indexing.{at_none, none_listed, none_found, place_there}
use Rattle.history_tree.proofs.tree.Tree.find.Goals as goal

pub returns-in_err-place-clause-none : goal.returns-in_err-place-clause-none
returns-in_err-place-clause-none c =
    let t = tree_of c.self.inside.nodes.nodes c.self.inside.root c.self.inside.leaf c.self.inside.greatest in
    at_none c.from_residual.result _ (rw (← c.self.view_is) (none_listed t c.self.inside.places c.args.number c.args.t c.self.invariant.indexed c.in_err-place.ensures.none))

pub node-node-requires-clause-number : goal.node-node-requires-clause-number
node-node-requires-clause-number c = place_there c.self.inside.nodes.nodes c.self.inside.places c.args.number c.args.t c.in_ok-place.place c.self.invariant.indexed c.in_ok-place.ensures.found

pub returns-clause-found : goal.returns-clause-found
returns-clause-found c =
    let t = tree_of c.self.inside.nodes.nodes c.self.inside.root c.self.inside.leaf c.self.inside.greatest in
    rw (← c.self.view_is) (held_some t c.in_ok-place.place.node c.args.number c.args.t c.find.result c.self.invariant.tree
    (place_there c.self.inside.nodes.nodes c.self.inside.places c.args.number c.args.t c.in_ok-place.place c.self.invariant.indexed c.in_ok-place.ensures.found)
    (ap (λ (n : Node). find (is_of c.args.number c.args.t) n.intervals) (sym c.node-node.ensures.node) ∙ sym c.find.ensures))

pub returns-clause-none : goal.returns-clause-none
returns-clause-none c =
    let t = tree_of c.self.inside.nodes.nodes c.self.inside.root c.self.inside.leaf c.self.inside.greatest in
    rw (← c.self.view_is) (none_found t c.self.inside.places c.args.number c.args.t c.in_ok-place.place c.find.result c.self.invariant.tree c.self.invariant.indexed c.in_ok-place.ensures.found
    (ap (λ (n : Node). find (is_of c.args.number c.args.t) n.intervals) (sym c.node-node.ensures.node) ∙ sym c.find.ensures))
