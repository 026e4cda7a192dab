use Rattle.hull_lines.proofs.OneLine.{steep_slopes, steep_heights}
use Rattle.hull_lines.proofs.laws.one_steep_line.Goals as goal

pub returns-clause-slope : goal.returns-clause-slope
returns-clause-slope c = steep_slopes c.args.lower.now c.args.upper.now c.args.drift

pub returns-clause-height : goal.returns-clause-height
returns-clause-height c = steep_heights c.args.lower.now c.args.upper.now c.args.drift
