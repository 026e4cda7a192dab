use Rattle.std.proofs.Common.{◌≡◌, Some, rules}
use Rattle.std.proofs.lemmas.Result.{IfErr-weaker, IfOk-weaker}
use Rattle.ht_outside.specs.Stored.{files_of}
use Rattle.host_sync.specs.Hosts.{synced_of}
use Rattle.hosttrace.specs.Making.{made_folders}
use Rattle.hosttrace.proofs.MadeTraces.{made_fails, made_traces}
use Rattle.hosttrace.proofs.making.made_cluster.Goals as goal

pub returns-clause-cluster : goal.returns-clause-cluster
returns-clause-cluster g c =
    let named : c.deref.result.now ≡ made_folders c.args.hosts = search rules in
    IfOk-weaker c.read_cluster.result _ _ (λ k h. made_traces c.args.number c.args.hosts c.args.rounds (files_of c.in_ok-store.store) c.deref.result.now k.hosts.items (synced_of k.synced) c.in_ok-store.ensures named h) c.read_cluster.ensures.cluster

pub returns-clause-fails : goal.returns-clause-fails
returns-clause-fails g c =
    let named : c.deref.result.now ≡ made_folders c.args.hosts = search rules in
    IfErr-weaker c.read_cluster.result _ _ (λ status f. made_fails c.args.number c.args.hosts c.args.rounds (files_of c.in_ok-store.store) (Some (files_of c.read_cluster.new.store)) c.deref.result.now status c.in_ok-store.ensures named f) c.read_cluster.ensures.fails
