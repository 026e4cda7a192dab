use Rattle.std.proofs.Common.{rules, ◌≡◌, ◌↔◌, IsTrue, length, sym, ap, ◌∙◌}
use Rattle.indexmap.specs.IndexMap.{keys}
use Rattle.attribute_tree.specs.Numbered.{Numbered}
use Rattle.attribute_tree.proofs.Places.{paths_length}
use Rattle.attribute_tree.proofs.attributes.Attributes.is_empty.Goals as goal

pub returns : goal.returns
returns c =
    let places = c.self.inside.places.items in
    let empty : IsTrue c.is_empty.result ↔ (length places ≡ 0) = search rules in
    let same = sym (ap (λ (n : Numbered). length n.paths) c.self.view_is) ∙ paths_length (keys c.self.inside.rows) places c.self.invariant.told in
    (λ is. same ∙ empty.0 is, λ none. empty.1 (sym same ∙ none))
