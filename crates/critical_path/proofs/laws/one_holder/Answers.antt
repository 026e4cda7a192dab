use Rattle.critical_path.proofs.OneHolder.{one_holder}
use Rattle.critical_path.proofs.laws.one_holder.Goals as goal

pub returns : goal.returns
returns c = one_holder
