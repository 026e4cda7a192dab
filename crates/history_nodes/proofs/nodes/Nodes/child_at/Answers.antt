use Rattle.std.proofs.Common.{◌∙◌, ap, sym}
use Rattle.history_nodes.specs.Nodes.{NodeList, node_at, holds}
use Rattle.history_nodes.proofs.Finding.{find_behind}
use Rattle.history_nodes.proofs.Reading.{child_fails}
use Rattle.history_nodes.proofs.nodes.Nodes.child_at.Goals as goal

pub loop-child-preserved : goal.loop-child-preserved
loop-child-preserved c =
    c.loop-child.invariant ∙ find_behind (λ k. holds c.args.t (node_at c.args.self.now.nodes k)) c.as_slice-child-items.result.now c.loop-child.child-index 0 c.loop-child-test.true
    (child_fails c.args.t c.self.inside.nodes.items c.args.self.now.nodes c.args.number c.index.result.now c.index-in-loop-child.result.now c.as_slice-child-items.result.now c.loop-child.child-index
    (ap (λ (v : NodeList). v.nodes) c.self.view_is) c.index.ensures c.requires.number c.as_slice-child-items.ensures.numbers c.loop-child-test.true c.requires.children c.index-in-loop-child.ensures
    (sym c.holds.ensures ∙ c.if-holds.false))
