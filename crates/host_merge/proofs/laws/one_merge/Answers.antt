use Rattle.host_merge.proofs.One.{one_merge}
use Rattle.host_merge.proofs.laws.one_merge.Goals as goal

pub returns : goal.returns
returns c = one_merge
