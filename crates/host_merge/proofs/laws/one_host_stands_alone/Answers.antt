use Rattle.host_merge.proofs.One.{one_host}
use Rattle.host_merge.proofs.laws.one_host_stands_alone.Goals as goal

pub returns : goal.returns
returns c = one_host
