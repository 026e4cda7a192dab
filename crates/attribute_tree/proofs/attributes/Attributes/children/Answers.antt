use Rattle.std.proofs.Common.{◌∙◌}
use Rattle.attribute_tree.proofs.Rooted.{kept_children}
use Rattle.attribute_tree.proofs.attributes.Attributes.children.Goals as goal

pub returns : goal.returns
returns c = c.new.ensures ∙ kept_children c.args.self.now.paths c.args.node
