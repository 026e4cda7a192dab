use Rattle.std.proofs.Common.{◌≡◌, ◌<◌, ◌+◌, ◌*◌, false, Option, None, Some, is_some, length, slice_get, refl, sym, ap, ◌∙◌, arith}
use Rattle.std.proofs.lemmas.Nat.{mul-add-lt}
use Rattle.std.proofs.lemmas.Option.{slice_get_read, slice_get-get_or}
use Rattle.hull_lines.specs.declared.outcome.Fit.TheVariants.{Map}
use Rattle.host_tree.specs.declared.place.Place.{Place}
use Rattle.host_tree.proofs.Children.{one_placed}
use Rattle.host_tree.proofs.trees.place_children.Goals as goal

none_from_test : (o : Option Place) → is_some o ≡ false → o ≡ None
none_from_test None e = refl
none_from_test (Some p) e = absurd (cc)

pub loop-child-preserved : goal.loop-child-preserved
loop-child-preserved c =
    let fits = c.args.fits.now in
    let places = c.loop-child.places in
    let room : c.args.parent * c.args.hosts + c.loop-child.child < length fits = omega (arith, mul-add-lt c.args.parent c.args.hosts c.loop-child.child c.args.hosts c.requires.parent c.loop-child-test.true) in
    let none : slice_get places c.loop-child.child ≡ Some None = slice_get_read places (length places) c.loop-child.child c.index-places-child.result refl (omega arith) c.index-places-child.is ∙ ap Some (none_from_test c.index-places-child.result (ap is_some c.index-places-child.is ∙ (sym c.is_some.ensures ∙ c.if-is_some.false))) in
    let fit : slice_get fits (c.args.parent * c.args.hosts + c.loop-child.child) ≡ Some (Map c.in-Map.map) = slice_get-get_or fits (c.args.parent * c.args.hosts + c.loop-child.child) _ room ∙ ap Some c.in-Map.is in
    one_placed c.args.hosts fits c.args.root c.args.level c.args.parent c.loop-child.child c.loop-child.added c.in-Map.map c.args.places.now places c.loop-child-test.true c.requires.parent none fit c.loop-child.invariant
