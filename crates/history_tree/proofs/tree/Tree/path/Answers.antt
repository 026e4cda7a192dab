use Rattle.history_tree.specs.Tree.{tree_of}
use Rattle.history_tree.proofs.Visiting.{descended, is_way}
use Rattle.history_tree.proofs.tree.Tree.path.Goals as goal

pub new-requires-clause-descended : goal.new-requires-clause-descended
new-requires-clause-descended c = descended (tree_of c.self.inside.nodes.nodes c.self.inside.root c.self.inside.leaf c.self.inside.greatest) c.self.invariant.tree

pub returns : goal.returns
returns c = rw (← c.self.view_is) (is_way (tree_of c.self.inside.nodes.nodes c.self.inside.root c.self.inside.leaf c.self.inside.greatest) c.args.t c.new.result c.self.invariant.tree c.requires c.new.ensures)
