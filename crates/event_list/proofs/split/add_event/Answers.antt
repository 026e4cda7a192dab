use Rattle.std.proofs.Common.{arith}
use Rattle.event_list.proofs.Splitting.{both_ok, one_more}
use Rattle.event_list.proofs.split.add_event.Goals as goal

pub returns : goal.returns
returns c = both_ok c.push_event.result (λ same more lists ms are. one_more c.args.merged.now ms 0 lists c.args.hosts.now.items c.args.merged.now.event.host c.index_mut.result.now c.push_event.new.host (omega arith) c.requires c.index_mut.ensures.value same more are) c.push_event.ensures.others c.push_event.ensures.events
