use Rattle.clock_fraction.proofs.Means.{maps_rise}
use Rattle.clock_fraction.proofs.laws.rises.Goals as goal

pub returns : goal.returns
returns c = λ s t. maps_rise c.args.map.now c.args.x c.args.y s t c.requires
