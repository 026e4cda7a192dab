use Rattle.std.proofs.Common.{sym, ap, ◌∙◌}
use Rattle.history_nodes.specs.declared.node.Shape.{Shape}
use Rattle.history_tree.proofs.Shortening.{shortcut_up, ends_there}
use Rattle.history_tree.proofs.shortcuts.Shortcuts.next_up.Goals as goal

pub returns-clause-up : goal.returns-clause-up
returns-clause-up c = shortcut_up c.args.nodes.now.nodes c.args.number c.shape.result.parent c.requires.climbed c.requires.number (sym c.has_room.ensures ∙ c.if-has_room.false) (ap (λ (s : Shape). s.parent) c.shape.ensures)

pub returns-clause-ends : goal.returns-clause-ends
returns-clause-ends c = ends_there c.args.nodes.now.nodes c.args.number c.shape.result.parent (ap (λ (s : Shape). s.parent) c.shape.ensures)
