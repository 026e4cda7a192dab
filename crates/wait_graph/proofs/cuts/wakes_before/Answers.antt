use Rattle.std.proofs.Common.{rules, of_calls, nat_lt}
use Rattle.std.proofs.lemmas.Fn.{always_returns_same}
use Rattle.std.proofs.lemmas.List.Sorted.{IsPartitionedBy-ltb}
use Rattle.wait_graph.specs.Wakes.{wake_order}
use Rattle.wait_graph.proofs.Halves.{cut_before, never_falls}
use Rattle.wait_graph.proofs.cuts.wakes_before.Goals as goal

pub returns : goal.returns
returns c = cut_before wake_order c.args.wakes.now c.args.wanted c.partition_point.result c.partition_point.ensures.bound
    (c.partition_point.ensures.partitioned (λ w. nat_lt (wake_order w) c.args.wanted) (always_returns_same _ _ _ (λ a r f k. search (rules, of_calls)))
    (IsPartitionedBy-ltb wake_order c.args.wakes.now c.args.wanted (never_falls wake_order c.args.wakes.now c.requires)))
