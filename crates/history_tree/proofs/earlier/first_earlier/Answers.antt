use Rattle.std.proofs.Common.{◌≤◌, Some, sym, ap, ◌∙◌, arith}
use Rattle.history_nodes.specs.declared.node.Shape.{Shape}
use Rattle.history_nodes.specs.Nodes.{node_at}
use Rattle.history_tree.proofs.Beginning.{late_up, late_on, earlier_known}
use Rattle.history_tree.proofs.earlier.first_earlier.Goals as goal

pub shape-requires : goal.shape-requires
shape-requires c = (c.requires.climbed.parents c.args.number c.in-Some.parent c.requires.number (sym (ap (λ (s : Shape). s.parent) c.shape-shape.ensures) ∙ c.in-Some.is)).there

pub returns-then-shape : goal.returns-then-shape
returns-then-shape c = λ differs.
    late_up c.args.nodes.now.nodes c.args.number (Some c.in-Some.parent) c.requires.climbed c.requires.number (sym c.in-Some.is ∙ ap (λ (s : Shape). s.parent) c.shape-shape.ensures)

pub returns : goal.returns
returns c = λ differs.
    let nodes = c.args.nodes.now.nodes in
    let low = ap (λ (s : Shape). s.start) c.shape-shape.ensures in
    let high = ap (λ (s : Shape). s.start) c.shape.ensures in
    let le : (node_at nodes c.args.number).start ≤ (node_at nodes c.in-Some.parent).start = omega (arith, low, high, c.if-shape.false) in
    late_on nodes c.args.number c.in-Some.parent c.known.result c.requires.climbed c.requires.number (sym (ap (λ (s : Shape). s.parent) c.shape-shape.ensures) ∙ c.in-Some.is) le
    (earlier_known nodes c.args.numbers.now c.in-Some.parent c.requires.earlier c.known.result c.known.ensures)
