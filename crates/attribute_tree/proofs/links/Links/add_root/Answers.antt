use Rattle.std.proofs.Common.{rules, ◌≡◌, ◌<◌, length, sym, ap, ◌∙◌, arith}
use Rattle.attribute_tree.specs.Links.{LinkLists}
use Rattle.attribute_tree.proofs.Said.{nexts_length, root_stays}
use Rattle.attribute_tree.proofs.links.Links.add_root.Goals as goal

pub returns-else-is_empty-clause-next : goal.returns-else-is_empty-clause-next
returns-else-is_empty-clause-next c =
    let some : 0 < length c.self.inside.last_child.items = search rules in
    let long : length c.args.self.now.next ≡ length c.self.inside.ring.items = sym (ap (λ (l : LinkLists). length l.next) c.self.view_is) ∙ nexts_length 0 c.self.inside.ring.items in
    root_stays c.args.self.now.next (omega (arith, some, long, c.self.invariant.lasts))
