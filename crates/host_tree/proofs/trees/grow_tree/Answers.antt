use Rattle.std.proofs.Common.{◌+◌, is_none, subst, sym, refl, arith}
use Rattle.std.proofs.lemmas.List.Sums.{count_by-le-length}
use Rattle.host_tree.specs.declared.parent.Parent.TheVariants.{Root}
use Rattle.host_tree.specs.declared.place.Place.{Place}
use Rattle.host_tree.specs.Places.{AreGrown}
use Rattle.host_tree.proofs.Children.{one_less}
use Rattle.host_tree.proofs.Growth.{tree_begun, tree_done}
use Rattle.host_tree.proofs.trees.grow_tree.Goals as goal

pub loop-level-init : goal.loop-level-init
loop-level-init c =
    let place : Place = record { root = c.args.root; level = 0; parent = Root } in (
      tree_begun c.args.hosts c.args.fits.now c.args.root place c.args.places.now c.requires.free refl refl refl c.requires.grown,
      omega (arith, one_less c.args.places.now c.args.root place c.requires.free, count_by-le-length is_none c.args.places.now, c.requires.grown.count),
    )

pub returns : goal.returns
returns c =
    let hosts = c.args.hosts in
    let fits = c.args.fits.now in
    let same = c.grow_level.ensures.idle (omega (arith, c.loop-level-test.false)) in
    tree_done hosts fits c.args.root c.loop-level.level c.grow_level.new.places
    (subst (AreGrown hosts fits c.args.root (c.loop-level.level + 1)) (sym same) c.loop-level.invariant.0)
    c.grow_level.ensures.grown
