use Rattle.std.proofs.Common.{ap, arith}
use Rattle.history_nodes.specs.declared.node.Shape.{Shape}
use Rattle.history_tree.proofs.Opening.{opening_begins, opening_on}
use Rattle.history_tree.proofs.branch.open_below.Goals as goal

pub loop-level-init : goal.loop-level-init
loop-level-init c = opening_begins c.args.nodes.now c.args.parent c.shape-level.result.level c.args.start c.requires.parent c.requires.room c.requires.spare (ap (λ (s : Shape). s.level) c.shape-level.ensures)

pub loop-level-preserved : goal.loop-level-preserved
loop-level-preserved c =
    opening_on c.args.nodes.now c.loop-level.nodes c.adopt.new.self c.push.new.self.nodes c.new.result c.args.parent c.loop-level.number c.unwrap-child.result c.loop-level.level c.args.start
    c.loop-level.invariant (omega (arith, c.loop-level-test.true)) c.new.ensures (rw c.unwrap-child.ensures at c.push.ensures.number) (rw c.unwrap-child.ensures at c.push.ensures.nodes) c.adopt.ensures.nodes
    (omega (arith, c.adopt.ensures.spare, rw c.unwrap-child.ensures at c.push.ensures.spare, c.loop-level.invariant.enough, c.loop-level-test.true))
