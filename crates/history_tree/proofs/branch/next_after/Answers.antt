use Rattle.std.proofs.Common.{ap}
use Rattle.history_nodes.specs.declared.node.Shape.{Shape}
use Rattle.history_tree.proofs.Climbing.{by_one}
use Rattle.history_tree.proofs.branch.next_after.Goals as goal

pub returns : goal.returns
returns c = by_one c.args.nodes.now.nodes c.args.number c.shape-shape.result.parent c.args.start c.requires.climbed c.requires.number (ap (λ (s : Shape). s.parent) c.shape-shape.ensures) c.requires.fails
