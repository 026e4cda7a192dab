use Rattle.std.proofs.Common.{◌≡◌, Some, None, cond, subst, sym, ◌∙◌, rules}
use Rattle.indexmap.specs.IndexMap.{get}
use Rattle.attribute_tree.specs.declared.prefix.Prefix.{Prefix}
use Rattle.attribute_tree.specs.Nodes.{same_prefix}
use Rattle.attribute_tree.specs.Fronts.{HasNode}
use Rattle.attribute_tree.proofs.Numbers.{some_any}
use Rattle.attribute_tree.proofs.Fronts.{there, group_made_node}
use Rattle.attribute_tree.proofs.nodes.group_node.Goals as goal

pub returns-in-Some-clause-made : goal.returns-in-Some-clause-made
returns-in-Some-clause-made c nodes tree stands =
    let group = c.args.group in
    let found : get same_prefix c.args.groups.now group ≡ Some c.in-Some.node.now = search rules in
    let at = sym (tree.groups group c.requires.group) ∙ found in
    subst (λ l. HasNode l (get same_prefix c.args.groups.now) c.args.links.now group c.in-Some.node.now) (sym (there nodes group (some_any (same_prefix group) nodes c.in-Some.node.now at))) (record { tree = tree; number = at })

pub returns-clause-made : goal.returns-clause-made
returns-clause-made c nodes tree stands =
    let group = c.args.group in
    let none : get same_prefix c.args.groups.now group ≡ None = search rules in
    let new = sym (tree.groups group c.requires.group) ∙ none in
    let updates : (p : Prefix) → get same_prefix c.insert.new.self p ≡ cond (same_prefix group p) (Some c.add-node.result) (get same_prefix c.args.groups.now p) = search rules in
    group_made_node nodes (get same_prefix c.args.groups.now) c.args.links.now c.add-node.new.self tree group c.args.parent c.add-node.result c.requires.group stands new c.add-node.ensures.node c.add-node.ensures.links (get same_prefix c.insert.new.self) updates
