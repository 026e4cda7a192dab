use Rattle.std.proofs.Common.{rules}
use Rattle.host_sync.specs.Hosts.{synced_of}
use Rattle.hosttrace.proofs.Clustered.{can_report}
use Rattle.hosttrace.proofs.making.summary_of.Goals as goal

pub made_text-requires : goal.made_text-requires
made_text-requires c = let can = can_report c.args.cluster.now.hosts.items 1000 (synced_of c.args.cluster.now.synced) c.requires in search rules
