use Rattle.std.proofs.Common.{length, refl, arith}
use Rattle.std.proofs.lemmas.Option.{slice_get_read}
use Rattle.std.proofs.lemmas.Result.{err_from_is_err_and}
use Rattle.hull_lines.proofs.Seen.{all_none, all_more, all_all, refused_row}
use Rattle.hull_lines.proofs.rows.slopes_by_all_pairs.Goals as goal

pub loop-place-init : goal.loop-place-init
loop-place-init c = all_none c.args.lower.now c.args.upper.now c.args.drift c.slopes_within-range.result c.slopes_within-range.ensures

pub loop-place-preserved : goal.loop-place-preserved
loop-place-preserved c =
    all_more c.args.lower.now c.args.upper.now c.args.drift c.slopes_within-range.result c.loop-place.range c.in_ok-range.range c.loop-place.place c.index-lower-place.result
    c.loop-place-test.true c.index-lower-place.is c.loop-place.invariant c.in_ok-range.ensures.narrowed

pub returns-in_err-range-clause-refused : goal.returns-in_err-range-clause-refused
returns-in_err-range-clause-refused c =
    let p = err_from_is_err_and c.from_residual.result c.from_residual.ensures.1 in rw (p.1, p.2)
    (refused_row c.args.lower.now c.args.upper.now c.args.drift c.loop-place.place c.index-lower-place.result _ (omega (arith, c.requires.drift))
    (slice_get_read c.args.lower.now (length c.args.lower.now) c.loop-place.place c.index-lower-place.result refl c.loop-place-test.true c.index-lower-place.is)
    c.in_err-range.ensures.refused)

pub returns-clause-range : goal.returns-clause-range
returns-clause-range c = all_all c.args.lower.now c.args.upper.now c.args.drift c.slopes_within-range.result c.loop-place.range c.loop-place.place (omega arith) c.loop-place.invariant
