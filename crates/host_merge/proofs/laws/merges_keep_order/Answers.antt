use Rattle.host_merge.proofs.Kept.{keeps_order}
use Rattle.host_merge.proofs.laws.merges_keep_order.Goals as goal

pub returns : goal.returns
returns c = keeps_order
