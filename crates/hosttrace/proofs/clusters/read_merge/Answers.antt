use Rattle.std.proofs.Common.{subst, sym}
use Rattle.history_core.specs.Agreement.{IsMerge}
use Rattle.host_sync.specs.Hosts.{synced_of}
use Rattle.hosttrace.proofs.Clustered.{is_cluster}
use Rattle.hosttrace.proofs.clusters.read_merge.Goals as goal

pub returns-clause-trace : goal.returns-clause-trace
returns-clause-trace g c =
    is_cluster (g.S.Store.holds c.args.store.now) c.args.dirs.now c.args.drift c.in_ok-cluster.cluster.hosts.items (synced_of c.in_ok-cluster.cluster.synced) c.in_ok-merged_trace.field-0 c.in_ok-cluster.ensures.cluster c.in_ok-merged_trace.ensures.events c.in_ok-merged_trace.ensures.names

pub returns-clause-merge : goal.returns-clause-merge
returns-clause-merge g c = subst IsMerge (sym c.in_ok-merged_trace.ensures.events) c.in_ok-cluster.ensures.merge
