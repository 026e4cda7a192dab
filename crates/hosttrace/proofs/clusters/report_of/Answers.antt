use Rattle.std.proofs.Common.{◌∙◌, ◌++◌, rules}
use Rattle.report_views.specs.Report.{report_text}
use Rattle.host_sync.specs.Hosts.{synced_of}
use Rattle.hosttrace.proofs.Clustered.{can_report}
use Rattle.hosttrace.proofs.clusters.report_of.Goals as goal

pub report-requires-clause-few : goal.report-requires-clause-few
report-requires-clause-few c = let can = can_report c.args.cluster.now.hosts.items c.args.drift (synced_of c.args.cluster.now.synced) c.requires.synced in search rules

pub report-requires-clause-square : goal.report-requires-clause-square
report-requires-clause-square c = let can = can_report c.args.cluster.now.hosts.items c.args.drift (synced_of c.args.cluster.now.synced) c.requires.synced in search rules

pub report-requires-clause-between : goal.report-requires-clause-between
report-requires-clause-between c = let can = can_report c.args.cluster.now.hosts.items c.args.drift (synced_of c.args.cluster.now.synced) c.requires.synced in search rules

pub report-requires-clause-placed : goal.report-requires-clause-placed
report-requires-clause-placed c = let can = can_report c.args.cluster.now.hosts.items c.args.drift (synced_of c.args.cluster.now.synced) c.requires.synced in search rules

pub returns : goal.returns
returns c =
    let synced = c.args.cluster.now.synced in
    let hosts = c.deref.ensures.value in
    let fits = c.deref-2.ensures.value in
    let merged = c.deref-3.ensures.value in
    let placed = c.deref-4.ensures.value in
    c.in_ok-report.ensures.text ∙ (λ i. c.new-text.ensures.items i ++ report_text (hosts i) synced.messages.matched.items synced.messages.ambiguous (fits i) synced.forest.items (merged i) (placed i) c.args.drift)
