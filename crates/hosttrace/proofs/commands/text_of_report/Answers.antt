use Rattle.host_sync.specs.Hosts.{synced_of}
use Rattle.hosttrace.proofs.Clustered.{report_output}
use Rattle.hosttrace.proofs.commands.text_of_report.Goals as goal

pub returns-clause-text : goal.returns-clause-text
returns-clause-text g c =
    report_output (g.S.Store.holds c.args.store.now) c.args.folders.now c.args.drift c.in_ok-cluster.cluster.hosts.items (synced_of c.in_ok-cluster.cluster.synced) c.in_ok-report_of.field-0.items c.in_ok-cluster.ensures.cluster c.in_ok-report_of.ensures
