use Rattle.std.proofs.Common.{rules, of_calls, nat_lt}
use Rattle.std.proofs.lemmas.Fn.{always_returns_same}
use Rattle.std.proofs.lemmas.List.Sorted.{IsPartitionedBy-ltb}
use Rattle.history_tree.specs.Places.{start_of}
use Rattle.history_tree.proofs.Rows.{gap_found}
use Rattle.history_tree.proofs.places.gap.Goals as goal

pub returns : goal.returns
returns c = gap_found c.args.places.now c.args.start c.partition_point.result c.partition_point.ensures.bound
    (c.partition_point.ensures.partitioned (λ p. nat_lt (start_of p) c.args.start) (always_returns_same _ _ _ (λ a r f k. search (rules, of_calls)))
    (IsPartitionedBy-ltb start_of c.args.places.now c.args.start c.requires))
