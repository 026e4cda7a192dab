use Rattle.std.proofs.Common.{ap}
use Rattle.history_nodes.specs.declared.node.Shape.{Shape}
use Rattle.history_tree.proofs.Beginning.{late_up}
use Rattle.history_tree.proofs.earlier.Earlier.above.Goals as goal

pub returns : goal.returns
returns c = late_up c.args.nodes.now.nodes c.args.number c.shape.result.parent c.requires.climbed c.requires.number (ap (λ (s : Shape). s.parent) c.shape.ensures)
