use Rattle.std.proofs.Common.{◌≡◌, ◌≤◌, length, subst, rules, IfSome}
use Rattle.std.proofs.lemmas.Result.{IfErr-weaker, IfOk-weaker}
use Rattle.host_sync.specs.Hosts.{synced_of}
use Rattle.hosttrace.specs.Folders.{MAX_HOSTS}
use Rattle.hosttrace.specs.Refusals.{ClusterRefuses}
use Rattle.hosttrace.specs.Seen.{store_seen}
use Rattle.hosttrace.specs.Streams.{AreHostsOf}
use Rattle.hosttrace.proofs.Clustered.{limits_refused, reading_refused, synced_traces}
use Rattle.hosttrace.proofs.Fails.{fails_at, fails_of}
use Rattle.hosttrace.proofs.clusters.read_cluster.Goals as goal

pub returns-in_err-hosts-clause-fails : goal.returns-in_err-hosts-clause-fails
returns-in_err-hosts-clause-fails g c =
    let few : length c.args.dirs.now ≤ MAX_HOSTS = search rules in
    let fails = fails_at g.S.Store.holds g.S.Store.faults (λ files r. ClusterRefuses files c.args.dirs.now r) _ c.args.store.now c.read_host_files.new.store c.in_err-hosts.field-0.0 (reading_refused (g.S.Store.holds c.args.store.now) c.args.dirs.now few) c.in_err-hosts.ensures.fails in
    search rules

pub returns-clause-cluster : goal.returns-clause-cluster
returns-clause-cluster g c =
    let few : length c.args.dirs.now ≤ MAX_HOSTS = search rules in
    let all : c.in_ok-hosts.hosts.items ≡ c.deref.result.now = search rules in
    let here = subst (λ l. IfSome (g.S.Store.holds c.args.store.now) (λ files. AreHostsOf files c.args.dirs.now l)) all c.in_ok-hosts.ensures.hosts in
    IfOk-weaker c.synced_hosts.result _ _ (λ k h. synced_traces (g.S.Store.holds c.args.store.now) c.args.dirs.now c.args.drift c.deref.result.now k.hosts.items (synced_of k.synced) few here h) c.synced_hosts.ensures.cluster

pub returns-clause-fails : goal.returns-clause-fails
returns-clause-fails g c =
    let few : length c.args.dirs.now ≤ MAX_HOSTS = search rules in
    let all : c.in_ok-hosts.hosts.items ≡ c.deref.result.now = search rules in
    let here = subst (λ l. IfSome (g.S.Store.holds c.args.store.now) (λ files. AreHostsOf files c.args.dirs.now l)) all c.in_ok-hosts.ensures.hosts in
    IfErr-weaker c.synced_hosts.result _ _ (λ status f. fails_of (λ files r. ClusterRefuses files c.args.dirs.now r) _ (store_seen g.S.Store.holds g.S.Store.faults c.args.store.now c.read_host_files.new.store) status (limits_refused (g.S.Store.holds c.args.store.now) c.args.dirs.now c.deref.result.now few here) f) c.synced_hosts.ensures.fails
