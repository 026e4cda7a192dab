use Rattle.host_sync.proofs.ReadAgain.{synced_read_again}
use Rattle.host_sync.proofs.laws.synced_read_again.Goals as goal

pub returns : goal.returns
returns c = synced_read_again
