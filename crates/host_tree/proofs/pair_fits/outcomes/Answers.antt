use Rattle.std.proofs.Common.{◌≡◌, Some, length, slice_get, refl, sym, ap, subst, arith}
use Rattle.std.proofs.lemmas.Option.{slice_get_read}
use Rattle.std.proofs.lemmas.List.{length_push}
use Rattle.host_tree.specs.Fits.{AreOutcomes, IsOutcome}
use Rattle.host_tree.proofs.Outcomes.{outcomes_more}
use Rattle.host_tree.proofs.pair_fits.outcomes.Goals as goal

pub loop-place-preserved : goal.loop-place-preserved
loop-place-preserved c =
    let lower = c.args.lower.now in
    let upper = c.args.upper.now in
    let place = c.loop-place.place in
    let l = c.index-lower-place.result in
    let u = c.index-upper-place.result in
    let fit = c.in_ok-fit.fit in
    let at_l : slice_get lower place ≡ Some l = slice_get_read lower (length lower) place l refl c.loop-place-test.true c.index-lower-place.is in
    let at_u : slice_get upper place ≡ Some u = slice_get_read upper (length upper) place u refl (omega arith) c.index-upper-place.is in
    let e = c.in_ok-fit.ensures in
    let here : IsOutcome c.as_slice.result.now c.as_slice-in-loop-place.result.now c.args.drift fit = record { map = e.map; absent = e.absent; refused = e.refused; mapped = e.mapped; lacking = e.lacking } in
    let outcome : IsOutcome l u c.args.drift fit = subst (λ x. IsOutcome l x c.args.drift fit) c.as_slice-in-loop-place.ensures (subst (λ x. IsOutcome x c.as_slice-in-loop-place.result.now c.args.drift fit) c.as_slice.ensures here) in (
      omega (arith, ap length c.in_ok-push.ensures.items, length_push c.loop-place.fits.items fit, c.loop-place.invariant.0),
      subst (AreOutcomes lower upper c.args.drift) (sym c.in_ok-push.ensures.items)
          (outcomes_more lower upper c.args.drift place l u c.loop-place.fits.items fit c.loop-place.invariant.0 at_l at_u outcome c.loop-place.invariant.1),
    )
