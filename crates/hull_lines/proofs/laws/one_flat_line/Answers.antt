use Rattle.hull_lines.proofs.OneLine.{flat_slopes, flat_heights}
use Rattle.hull_lines.proofs.laws.one_flat_line.Goals as goal

pub returns-clause-slope : goal.returns-clause-slope
returns-clause-slope c = flat_slopes c.args.lower.now c.args.upper.now c.args.drift

pub returns-clause-height : goal.returns-clause-height
returns-clause-height c = flat_heights c.args.lower.now c.args.upper.now c.args.drift
