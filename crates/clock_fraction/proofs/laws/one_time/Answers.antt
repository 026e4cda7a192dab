use Rattle.clock_fraction.proofs.Means.{maps_same}
use Rattle.clock_fraction.proofs.laws.one_time.Goals as goal

pub returns : goal.returns
returns c = maps_same c.args.map.now c.args.x
