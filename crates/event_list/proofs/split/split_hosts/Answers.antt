use Rattle.std.proofs.Common.{length, subst, sym, ◌<◌}
use Rattle.std.specs.List.{AllByRecursion}
use Rattle.event_list.proofs.Splitting.{as_many, each_below}
use Rattle.event_list.proofs.split.split_hosts.Goals as goal

pub add_event-requires : goal.add_event-requires
add_event-requires c = subst (λ n. c.merged-item.result.event.host < n) (sym (as_many _ 0 _ c.loop-merged.hosts.items c.loop-merged.invariant)) (each_below _ c.as_slice-merged-items.result.now c.loop-merged.merged-index c.merged-item.result (subst (AllByRecursion (λ m. m.event.host < length c.args.trace.now.names.items)) (sym c.as_slice-merged-items.ensures.value) c.requires.hosts) c.loop-merged-test.true c.merged-item.is)
