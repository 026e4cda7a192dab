use Rattle.std.proofs.Common.{ap, ◌∙◌}
use Rattle.indexmap.specs.IndexMap.{keys}
use Rattle.attribute_tree.specs.Nodes.{first_of, children_of, kept_nodes}
use Rattle.attribute_tree.specs.Numbered.{Numbered}
use Rattle.attribute_tree.specs.Places.{paths_at}
use Rattle.attribute_tree.proofs.Linked.{first_link}
use Rattle.attribute_tree.proofs.attributes.Attributes.first_child.Goals as goal

pub returns : goal.returns
returns c = c.first_child.ensures ∙ (first_link (kept_nodes (paths_at (keys c.self.inside.rows) c.self.inside.places.items)) c.self.invariant.kept.tree.linked c.args.node ∙ ap (λ (n : Numbered). first_of (children_of (kept_nodes n.paths) c.args.node)) c.self.view_is)
