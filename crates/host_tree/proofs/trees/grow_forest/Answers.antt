use Rattle.std.proofs.Common.{◌≡◌, true, Option, None, Some, is_some, not, length, slice_get, refl, ap, ◌∙◌, arith}
use Rattle.std.proofs.lemmas.Option.{slice_get_read}
use Rattle.host_tree.specs.declared.place.Place.{Place}
use Rattle.host_tree.proofs.Growth.{root_held}
use Rattle.host_tree.proofs.trees.grow_forest.Goals as goal
use Rattle.host_tree.proofs.trees.grow_forest.Goals.{then-is_none, else-is_none}

some_from_test : (o : Option Place) → is_some o ≡ true → (place : Place) × (o ≡ Some place)
some_from_test None e = absurd (cc)
some_from_test (Some place) e = (place, refl)

pub loop-root-preserved : goal.loop-root-preserved
loop-root-preserved c =
    let hosts = c.args.hosts in
    let fits = c.args.fits.now in
    let root = c.loop-root.root in
    let places = c.loop-root.places in
    elim c.if-is_none.branch [
      | then-is_none w ↦ rw (w.places-is) w.grow_tree.ensures
      | else-is_none w ↦
          let p = some_from_test c.index-places-root.result (ap is_some c.index-places-root.is ∙ (c.is_none.ensures ∙ ap not w.if-is_none.false)) in
          let at : slice_get places root ≡ Some (Some p.0) = slice_get_read places (length places) root c.index-places-root.result refl (omega arith) c.index-places-root.is ∙ ap Some p.1 in
          rw (w.places-is) (root_held hosts fits root p.0 places at c.loop-root.invariant)
    ]
