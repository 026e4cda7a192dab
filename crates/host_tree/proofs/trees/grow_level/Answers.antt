use Rattle.std.proofs.Common.{◌≡◌, ◌+◌, Some, IsSomeAnd, length, get_or, slice_get, refl, sym, subst, ap, ◌∙◌, arith, add-one}
use Rattle.std.proofs.lemmas.Nat.{mul-add-lt}
use Rattle.std.proofs.lemmas.Option.{slice_get_read, get_or_from_slice_get}
use Rattle.std.proofs.lemmas.Bool.{both_ways}
use Rattle.host_tree.specs.declared.place.Place.{Place}
use Rattle.host_tree.specs.Places.{AreScanned}
use Rattle.host_tree.proofs.Growth.{level_begun, level_done}
use Rattle.host_tree.proofs.Scans.{at_level, scan_children, scan_other}
use Rattle.host_tree.proofs.trees.grow_level.Goals as goal
use Rattle.host_tree.proofs.trees.grow_level.Goals.{then-is_at, else-is_at}

pub loop-parent-init : goal.loop-parent-init
loop-parent-init c = record {
  scanned = level_begun c.args.hosts c.args.fits.now c.args.root c.args.level c.args.places.now c.requires.grown;
  count = omega arith;
  idle = λ _. refl;
}

pub loop-parent-preserved : goal.loop-parent-preserved
loop-parent-preserved c =
    let hosts = c.args.hosts in
    let fits = c.args.fits.now in
    let root = c.args.root in
    let level = c.args.level in
    let parent = c.loop-parent.parent in
    let places = c.loop-parent.places in
    let i = c.loop-parent.invariant in
    let o = get_or places parent c.index-places-parent.result in
    elim c.if-is_at.branch [
      | then-is_at w ↦
          let p = at_level o root level (c.is_at.ensures.0 w.if-is_at.true) in
          let at : slice_get places parent ≡ Some (Some p.0) = slice_get_read places (length places) parent c.index-places-parent.result refl (omega arith) c.index-places-parent.is ∙ ap Some (c.index-places-parent.is ∙ p.1) in
          let u = w.place_children-grown.ensures in
          let scanned : AreScanned hosts fits root level (parent + 1) w.place_children-grown.new.places =
          scan_children hosts fits root level (level + 1) parent p.0 places w.place_children-grown.new.places c.requires.square (add-one level) c.loop-parent-test.true
          (λ child h. mul-add-lt parent hosts child hosts c.loop-parent-test.true h) at p.2 p.3 u.under i.scanned in
          rw (w.places-is, w.grown-is) (record {
            scanned = scanned;
            count = omega (arith, u.count, i.count);
            idle = λ z. u.idle (omega (arith, z)) ∙ i.idle (omega (arith, z));
          })
      | else-is_at w ↦
          let other : (p : Place) → slice_get places parent ≡ Some (Some p) → p.root ≡ root → p.level ≡ level → ⊥ = λ p e r l.
          both_ways c.is_at.result w.if-is_at.false (c.is_at.ensures.1 (subst (λ x. IsSomeAnd x (λ q. (q.root ≡ root) × (q.level ≡ level))) (sym (get_or_from_slice_get places parent (Some p) c.index-places-parent.result e)) (r, l))) in
          rw (w.places-is, w.grown-is) (record {
            scanned = scan_other hosts fits root level parent places c.loop-parent-test.true other i.scanned;
            count = i.count;
            idle = i.idle;
          })
    ]

pub returns-clause-grown : goal.returns-clause-grown
returns-clause-grown c = level_done c.args.hosts c.args.fits.now c.args.root c.args.level c.loop-parent.places (subst (λ n. AreScanned c.args.hosts c.args.fits.now c.args.root c.args.level n c.loop-parent.places) (omega arith) c.loop-parent.invariant.scanned)
