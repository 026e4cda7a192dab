use Rattle.std.proofs.Common.{rules, ◌≡◌, ◌<◌, Some, length, slice_get, sym, ap, ◌∙◌, subst, arith}
use Rattle.std.specs.Prelude.{IsSome, vec_len}
use Rattle.indexmap.specs.IndexMap.{keys}
use Rattle.attribute_tree.specs.Numbered.{Numbered}
use Rattle.attribute_tree.specs.Places.{paths_at}
use Rattle.attribute_tree.proofs.Places.{paths_length, place_read, path_told, path_stands}
use Rattle.attribute_tree.proofs.attributes.Attributes.path_of.Goals as goal

pub index-requires : goal.index-requires
index-requires c =
    let places = c.self.inside.places.items in
    let same = sym (ap (λ (n : Numbered). length n.paths) c.self.view_is) ∙ paths_length (keys c.self.inside.rows) places c.self.invariant.told in
    let long : vec_len c.self.inside.places ≡ length places = search rules in
    omega (arith, c.requires, same, long)

pub unwrap-requires : goal.unwrap-requires
unwrap-requires c =
    let places = c.self.inside.places.items in
    let within : c.args.number < length (paths_at (keys c.self.inside.rows) places) = subst (λ (n : Numbered). c.args.number < length n.paths) (sym c.self.view_is) c.requires in
    let at = place_read (keys c.self.inside.rows) places c.args.number c.index.result.now c.self.invariant.told within c.index.ensures in
    subst (λ o. IsSome o) (sym c.path_by_place.ensures) (path_told (keys c.self.inside.rows) places c.args.number c.index.result.now c.self.invariant.told at)

pub returns : goal.returns
returns c =
    let places = c.self.inside.places.items in
    let within : c.args.number < length (paths_at (keys c.self.inside.rows) places) = subst (λ (n : Numbered). c.args.number < length n.paths) (sym c.self.view_is) c.requires in
    let at = place_read (keys c.self.inside.rows) places c.args.number c.index.result.now c.self.invariant.told within c.index.ensures in
    let some : c.path_by_place.result ≡ Some c.unwrap.result = search rules in
    sym (ap (λ (n : Numbered). slice_get n.paths c.args.number) c.self.view_is) ∙ (path_stands (keys c.self.inside.rows) places c.args.number c.index.result.now c.self.invariant.told at ∙ (sym c.path_by_place.ensures ∙ some))
