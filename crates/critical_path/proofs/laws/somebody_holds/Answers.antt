use Rattle.critical_path.proofs.Somebody.{somebody_holds}
use Rattle.critical_path.proofs.laws.somebody_holds.Goals as goal

pub returns : goal.returns
returns c = somebody_holds
