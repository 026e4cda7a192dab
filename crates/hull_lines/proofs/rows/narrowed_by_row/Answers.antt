use Rattle.std.proofs.Common.{length, refl}
use Rattle.std.proofs.lemmas.Option.{slice_get_read}
use Rattle.std.proofs.lemmas.Result.{err_from_is_err_and}
use Rattle.hull_lines.proofs.Seen.{row_more}
use Rattle.hull_lines.proofs.rows.narrowed_by_row.Goals as goal

pub loop-place-preserved : goal.loop-place-preserved
loop-place-preserved c =
    row_more c.args.range c.loop-place.range c.in_ok-range.range c.args.lower c.index-upper-place.result c.args.lower_place c.loop-place.place c.args.upper.now
    c.loop-place-test.true c.index-upper-place.is c.loop-place.invariant c.in_ok-range.ensures.narrowed

pub returns-in_err-range-clause-refused : goal.returns-in_err-range-clause-refused
returns-in_err-range-clause-refused c =
    let p = err_from_is_err_and c.from_residual.result c.from_residual.ensures.1 in rw (p.1, p.2)
    (c.loop-place.place, c.index-upper-place.result, slice_get_read c.args.upper.now (length c.args.upper.now) c.loop-place.place c.index-upper-place.result refl c.loop-place-test.true c.index-upper-place.is, c.in_err-range.ensures.refused)
