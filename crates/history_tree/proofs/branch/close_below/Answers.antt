use Rattle.std.proofs.Common.{◌≡◌, ◌∙◌, ◌<◌, List, Some, refl, sym, ap, subst}
use Rattle.history_nodes.specs.declared.node.Node.{Node}
use Rattle.history_nodes.specs.declared.node.Shape.{Shape}
use Rattle.history_nodes.specs.Nodes.{node_at}
use Rattle.history_tree.proofs.Climbs.{height}
use Rattle.history_tree.proofs.Closing.{IsClosing, closing_begins, closing_here, closing_on, closing_ends, goes_up}
use Rattle.history_tree.proofs.branch.close_below.Goals as goal

pub loop-number-init : goal.loop-number-init
loop-number-init c = record {
  closing = closing_begins c.args.nodes.now.nodes c.args.from c.args.top c.args.end c.requires.up.0 c.requires.climbed c.requires.up.1 c.requires.up.2;
  spare = refl;
}

pub shape-above-requires : goal.shape-above-requires
shape-above-requires c = (closing_here c.args.nodes.now.nodes c.loop-number.nodes.nodes c.args.from c.loop-number.number c.args.top c.args.end c.loop-number.invariant.closing c.loop-number-test.true).there

pub close-requires-clause-number : goal.close-requires-clause-number
close-requires-clause-number c = (closing_here c.args.nodes.now.nodes c.loop-number.nodes.nodes c.args.from c.loop-number.number c.args.top c.args.end c.loop-number.invariant.closing c.loop-number-test.true).there

pub close-requires-clause-open : goal.close-requires-clause-open
close-requires-clause-open c = (closing_here c.args.nodes.now.nodes c.loop-number.nodes.nodes c.args.from c.loop-number.number c.args.top c.args.end c.loop-number.invariant.closing c.loop-number-test.true).unended

pub unwrap-number-requires : goal.unwrap-number-requires
unwrap-number-requires c =
    let b = closing_here c.args.nodes.now.nodes c.loop-number.nodes.nodes c.args.from c.loop-number.number c.args.top c.args.end c.loop-number.invariant.closing c.loop-number-test.true in
    let is : c.shape-above.result.parent ≡ Some b.parent.0 = ap (λ (s : Shape). s.parent) c.shape-above.ensures ∙ b.parent.1 in
    rw is refl

pub loop-number-smaller : goal.loop-number-smaller
loop-number-smaller c =
    let nodes = c.loop-number.nodes.nodes in
    let b = closing_here c.args.nodes.now.nodes nodes c.args.from c.loop-number.number c.args.top c.args.end c.loop-number.invariant.closing c.loop-number-test.true in
    let above : (node_at nodes c.loop-number.number).parent ≡ Some c.unwrap-number.result = sym (ap (λ (s : Shape). s.parent) c.shape-above.ensures) ∙ c.unwrap-number.ensures in
    subst (λ (ns : List Node). height ns (Some c.unwrap-number.result) < height nodes (Some c.loop-number.number)) (sym c.close.ensures.nodes) (goes_up nodes c.loop-number.number c.unwrap-number.result c.args.end c.loop-number.invariant.closing.climbed b.there above)

pub loop-number-preserved : goal.loop-number-preserved
loop-number-preserved c =
    let nodes = c.loop-number.nodes.nodes in
    let old = c.args.nodes.now.nodes in
    let b = closing_here old nodes c.args.from c.loop-number.number c.args.top c.args.end c.loop-number.invariant.closing c.loop-number-test.true in
    let above : (node_at nodes c.loop-number.number).parent ≡ Some c.unwrap-number.result = sym (ap (λ (s : Shape). s.parent) c.shape-above.ensures) ∙ c.unwrap-number.ensures in
    record {
      closing = subst (λ (ns : List Node). IsClosing old ns c.args.from c.unwrap-number.result c.args.top c.args.end) (sym c.close.ensures.nodes) (closing_on old nodes c.args.from c.loop-number.number c.unwrap-number.result c.args.top c.args.end c.loop-number.invariant.closing b above);
      spare = c.close.ensures.spare ∙ c.loop-number.invariant.spare;
    }

pub returns-clause-nodes : goal.returns-clause-nodes
returns-clause-nodes c = closing_ends c.args.nodes.now.nodes c.loop-number.nodes.nodes c.args.from c.loop-number.number c.args.top c.args.end c.loop-number.invariant.closing c.loop-number-test.false
