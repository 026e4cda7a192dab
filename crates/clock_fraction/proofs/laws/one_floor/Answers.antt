use Rattle.clock_fraction.proofs.Heights.{floors_same}
use Rattle.clock_fraction.proofs.laws.one_floor.Goals as goal

pub returns : goal.returns
returns c = floors_same c.args.line.now c.args.x
