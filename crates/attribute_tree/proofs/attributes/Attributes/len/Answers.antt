use Rattle.std.proofs.Common.{rules, ◌≡◌, length, sym, ap, ◌∙◌}
use Rattle.indexmap.specs.IndexMap.{keys}
use Rattle.attribute_tree.specs.Numbered.{Numbered}
use Rattle.attribute_tree.proofs.Places.{paths_length}
use Rattle.attribute_tree.proofs.attributes.Attributes.len.Goals as goal

pub returns : goal.returns
returns c =
    let places = c.self.inside.places.items in
    let count : c.len.result ≡ length places = search rules in
    count ∙ (sym (paths_length (keys c.self.inside.rows) places c.self.invariant.told) ∙ ap (λ (n : Numbered). length n.paths) c.self.view_is)
