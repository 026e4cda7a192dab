use Rattle.host_sync.proofs.Kept.{synced_sends_first}
use Rattle.host_sync.proofs.laws.synced_sends_first.Goals as goal

pub returns : goal.returns
returns c = synced_sends_first
