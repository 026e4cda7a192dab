use Rattle.std.proofs.Common.{sym, ◌∙◌}
use Rattle.attribute_tree.proofs.Said.{next_past, next_then}
use Rattle.attribute_tree.proofs.links.next_at.Goals as goal

pub returns-then-node-ring : goal.returns-then-node-ring
returns-then-node-ring c = sym (next_past c.args.ring.now c.args.node c.if-node-ring.true)

pub returns : goal.returns
returns c = c.then_some.ensures ∙ next_then c.args.ring.now c.args.node
