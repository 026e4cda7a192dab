use Rattle.std.proofs.Common.{ap, ◌∙◌}
use Rattle.attribute_tree.specs.Nodes.{kept_nodes, rest_from}
use Rattle.attribute_tree.proofs.Linked.{rest_children_of}
use Rattle.attribute_tree.proofs.children.Children.new.Goals as goal

pub returns : goal.returns
returns c = ap (rest_from (kept_nodes c.args.attributes.now.paths)) c.first_child.ensures ∙ rest_children_of (kept_nodes c.args.attributes.now.paths) c.args.node
