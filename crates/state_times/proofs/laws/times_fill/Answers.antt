use Rattle.state_times.proofs.Filling.{set_fills, times_fill}
use Rattle.state_times.proofs.laws.times_fill.Goals as goal

pub returns-clause-busy : goal.returns-clause-busy
returns-clause-busy c = times_fill

pub returns-clause-set : goal.returns-clause-set
returns-clause-set c = set_fills
