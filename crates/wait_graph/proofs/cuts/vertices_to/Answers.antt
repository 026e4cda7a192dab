use Rattle.std.proofs.Common.{rules, of_calls, nat_le}
use Rattle.std.proofs.lemmas.Fn.{always_returns_same}
use Rattle.std.proofs.lemmas.List.Sorted.{IsPartitionedBy-leb}
use Rattle.wait_graph.specs.Whole.{vertex_order}
use Rattle.wait_graph.proofs.Halves.{cut_after, never_falls}
use Rattle.wait_graph.proofs.cuts.vertices_to.Goals as goal

pub returns : goal.returns
returns c = cut_after vertex_order c.args.vertices.now c.args.wanted c.partition_point.result c.partition_point.ensures.bound
    (c.partition_point.ensures.partitioned (λ v. nat_le (vertex_order v) c.args.wanted) (always_returns_same _ _ _ (λ a r f k. search (rules, of_calls)))
    (IsPartitionedBy-leb vertex_order c.args.vertices.now c.args.wanted (never_falls vertex_order c.args.vertices.now c.requires)))
