use Rattle.std.proofs.Common.{rules}
use Rattle.trace_types.proofs.Decimals.{below_wide, too_large}
use Rattle.trace_types.proofs.number.read_number_below.Goals as goal

pub returns-in_err-number-clause-none : goal.returns-in_err-number-clause-none
returns-in_err-number-clause-none c = rw c.from_residual.ensures (λ n h. c.in_err-number.ensures.none n (below_wide n c.args.limit h c.ranges.limit.fits))

pub returns-else-number-from-clause-none : goal.returns-else-number-from-clause-none
returns-else-number-from-clause-none c = λ n h. too_large c.args.text.now c.in_ok-number.number n c.args.limit c.in_ok-number.ensures.found (search rules) (rw c.from.ensures at c.if-number-from.false) c.ranges.limit.fits h
