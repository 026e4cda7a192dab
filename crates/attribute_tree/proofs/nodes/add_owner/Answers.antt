use Rattle.attribute_tree.proofs.Fronts.{host_within, group_within, owner_made}
use Rattle.attribute_tree.proofs.nodes.add_owner.Goals as goal

pub group_node-above-requires-2-clause-parent : goal.group_node-above-requires-2-clause-parent
group_node-above-requires-2-clause-parent c =
    let root = c.add_root.ensures in
    host_within c.requires.tree.0 _ _ _ _ _ c.args.owner _ _ c.requires.tree.1 c.requires.tree.2 root.first root.last root.next c.groups-host.ensures.host c.group_node-above.ensures.made

pub add-requires-clause-parent : goal.add-requires-clause-parent
add-requires-clause-parent c =
    let root = c.add_root.ensures in
    group_within c.requires.tree.0 _ _ _ _ _ c.args.owner _ _ c.requires.tree.1 c.requires.tree.2 root.first root.last root.next c.groups-host.ensures.host c.group_node-above.ensures.made _ _ _ _ c.groups-host.ensures.group c.group_node-above-2.ensures.made

pub returns-clause-made : goal.returns-clause-made
returns-clause-made c nodes tree at_root new =
    let root = c.add_root.ensures in
    owner_made nodes _ _ _ _ _ c.args.owner _ _ tree at_root root.first root.last root.next c.groups-host.ensures.host c.group_node-above.ensures.made _ _ _ _ c.groups-host.ensures.group c.group_node-above-2.ensures.made _ c.add.result new c.add.ensures.node
    c.add.ensures.links
