use Rattle.std.proofs.Common.{◌≡◌, Some, subst, sym, ◌∙◌, rules}
use Rattle.indexmap.specs.IndexMap.{get}
use Rattle.attribute_tree.specs.Nodes.{same_prefix}
use Rattle.attribute_tree.specs.Rows.{same_owner, owner_of, node_in}
use Rattle.attribute_tree.specs.Fronts.{HasNode, prefix_of}
use Rattle.attribute_tree.proofs.Fronts.{grown_there}
use Rattle.attribute_tree.proofs.nodes.owner_node.Goals as goal

pub returns-in-Some-clause-made : goal.returns-in-Some-clause-made
returns-in-Some-clause-made c nodes tree owners root =
    let o = owner_of c.args.path in
    let found : node_in (get same_owner c.args.rows.now (owner_of c.args.path)) ≡ Some c.in-Some.spot.node = search rules in
    let at = sym (owners o) ∙ found in
    subst (λ l. HasNode l (get same_prefix c.args.groups.now) c.args.links.now (prefix_of o) c.in-Some.spot.node) (sym (grown_there nodes o c.in-Some.spot.node tree.linked.held at)) (record { tree = tree; number = at })
