use Rattle.std.proofs.Common.{◌≡◌, ◌∷◌, sym, ap, ◌∙◌, Some, refl, rules}
use Rattle.attribute_tree.specs.Nodes.{kept_nodes, rest_from, siblings_at}
use Rattle.attribute_tree.proofs.Linked.{rest_siblings}
use Rattle.attribute_tree.proofs.children.Children.next.Goals as goal

pub returns-clause-child : goal.returns-clause-child
returns-clause-child c =
    let nodes = kept_nodes c.self.inside.attributes.now.paths in
    let some : c.self.inside.next ≡ Some c.in_ok-child.child = search rules in
    sym c.self.view_is ∙ (ap (rest_from nodes) some ∙ ap (λ l. c.in_ok-child.child ∷ l) (sym (ap (rest_from nodes) c.next_sibling-self-inside.ensures ∙ rest_siblings nodes c.in_ok-child.child (siblings_at 0 c.in_ok-child.child nodes) refl)))
