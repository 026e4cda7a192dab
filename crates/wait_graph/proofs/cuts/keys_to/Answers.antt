use Rattle.std.proofs.Common.{rules, of_calls, nat_le}
use Rattle.std.proofs.lemmas.Fn.{always_returns_same}
use Rattle.std.proofs.lemmas.List.Sorted.{IsPartitionedBy-leb}
use Rattle.wait_graph.proofs.Halves.{cut_after}
use Rattle.wait_graph.proofs.cuts.keys_to.Goals as goal

pub returns : goal.returns
returns c = cut_after (λ k. k) c.args.keys.now c.args.t c.partition_point.result c.partition_point.ensures.bound
    (c.partition_point.ensures.partitioned (λ k. nat_le k c.args.t) (always_returns_same _ _ _ (λ a r f k. search (rules, of_calls)))
    (IsPartitionedBy-leb (λ k. k) c.args.keys.now c.args.t c.requires))
