use Rattle.std.proofs.Common.{ap, ◌∙◌}
use Rattle.indexmap.specs.IndexMap.{keys}
use Rattle.attribute_tree.specs.Nodes.{first_of, siblings_at, kept_nodes}
use Rattle.attribute_tree.specs.Numbered.{Numbered}
use Rattle.attribute_tree.specs.Places.{paths_at}
use Rattle.attribute_tree.proofs.Linked.{next_link}
use Rattle.attribute_tree.proofs.attributes.Attributes.next_sibling.Goals as goal

pub returns : goal.returns
returns c = c.next_sibling.ensures ∙ (next_link (kept_nodes (paths_at (keys c.self.inside.rows) c.self.inside.places.items)) c.self.invariant.kept.tree.linked c.args.node ∙ ap (λ (n : Numbered). first_of (siblings_at 0 c.args.node (kept_nodes n.paths))) c.self.view_is)
