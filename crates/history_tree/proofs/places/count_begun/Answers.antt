use Rattle.std.proofs.Common.{rules, of_calls, nat_le}
use Rattle.std.proofs.lemmas.Fn.{always_returns_same}
use Rattle.std.proofs.lemmas.List.Sorted.{IsPartitionedBy-leb}
use Rattle.history_tree.specs.Places.{start_of}
use Rattle.history_tree.proofs.Rows.{count_found}
use Rattle.history_tree.proofs.places.count_begun.Goals as goal

pub returns : goal.returns
returns c = count_found c.args.places.now c.args.t c.partition_point.result c.partition_point.ensures.bound
    (c.partition_point.ensures.partitioned (λ p. nat_le (start_of p) c.args.t) (always_returns_same _ _ _ (λ a r f k. search (rules, of_calls)))
    (IsPartitionedBy-leb start_of c.args.places.now c.args.t c.requires))
