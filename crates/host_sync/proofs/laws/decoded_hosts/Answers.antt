use Rattle.host_sync.proofs.Syncable.{decoded_are_syncable}
use Rattle.host_sync.proofs.laws.decoded_hosts.Goals as goal

pub returns : goal.returns
returns c = decoded_are_syncable
