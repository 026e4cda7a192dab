use Rattle.host_sync.proofs.Kept.{synced_keep_order}
use Rattle.host_sync.proofs.laws.synced_keep_order.Goals as goal

pub returns : goal.returns
returns c = synced_keep_order
