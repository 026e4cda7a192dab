use Rattle.trace_types.proofs.Cutting.{found, not_found}
use Rattle.trace_types.proofs.cut.cut_at.Goals as goal

pub returns-clause-found : goal.returns-clause-found
returns-clause-found c = found c.args.end c.args.text.now c.in_ok-place.place c.in_ok-place.ensures

pub returns-in_err-place-clause-none : goal.returns-in_err-place-clause-none
returns-in_err-place-clause-none c = rw c.from_residual.ensures (not_found c.args.end c.args.text.now c.in_err-place.ensures)
