use Rattle.critical_path.proofs.OnePath.{one_path}
use Rattle.critical_path.proofs.laws.one_path.Goals as goal

pub returns : goal.returns
returns c = one_path
