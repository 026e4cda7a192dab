use Rattle.host_sync.specs.Hosts.{synced_of}
use Rattle.hosttrace.proofs.MadeTraces.{make_output}
use Rattle.hosttrace.proofs.making.text_of_make.Goals as goal

pub returns-clause-text : goal.returns-clause-text
returns-clause-text g c =
    let cluster = c.in_ok-cluster.cluster in
    make_output c.args.number c.args.hosts c.args.rounds cluster.hosts.items (synced_of cluster.synced) c.in_ok-summary_of.field-0.items c.in_ok-cluster.ensures.cluster c.in_ok-summary_of.ensures
