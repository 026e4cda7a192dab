use Rattle.std.proofs.Common.{refl}
use Rattle.host_sync.specs.Hosts.{synced_of}
use Rattle.hosttrace.proofs.PathTexts.{folders_placed, merge_of_synced}
use Rattle.hosttrace.proofs.paths.placed_folders.Goals as goal

pub returns-clause-placed : goal.returns-clause-placed
returns-clause-placed g c =
    let cluster = c.in_ok-cluster.cluster in
    folders_placed (g.S.Store.holds c.args.store.now) c.args.dirs.now c.args.drift cluster.hosts.items (synced_of cluster.synced) cluster.synced.merged.items cluster.synced.placed.items c.in_ok-cluster.ensures.cluster refl refl

pub returns-clause-merge : goal.returns-clause-merge
returns-clause-merge g c =
    let cluster = c.in_ok-cluster.cluster in
    merge_of_synced cluster.hosts.items c.args.drift (synced_of cluster.synced) c.in_ok-cluster.ensures.synced c.in_ok-cluster.ensures.merge c.in_ok-cluster.ensures.few
