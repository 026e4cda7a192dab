use Rattle.std.proofs.Common.{rules}
use Rattle.host_sync.proofs.Syncable.{decoded_are_syncable}
use Rattle.host_sync.specs.Hosts.{synced_of}
use Rattle.host_sync.specs.Synced.{IsSynced}
use Rattle.hosttrace.proofs.clusters.synced_hosts.Goals as goal

pub synchronize-requires-clause-hosts : goal.synchronize-requires-clause-hosts
synchronize-requires-clause-hosts g c =
    let can = decoded_are_syncable c.args.hosts.now c.in-Ok.found.items c.in-Ok.ensures.hosts c.requires.numbered c.requires.few c.in-Ok.ensures.within.1 in
    search rules

pub returns-clause-synced : goal.returns-clause-synced
returns-clause-synced g c =
    let can = decoded_are_syncable c.args.hosts.now c.in-Ok.found.items c.in-Ok.ensures.hosts c.requires.numbered c.requires.few c.in-Ok.ensures.within.1 in
    let synced : IsSynced c.in-Ok.found.items c.args.drift (synced_of c.in_ok-synced.synced) = search rules in
    record { can = can; synced = synced }
