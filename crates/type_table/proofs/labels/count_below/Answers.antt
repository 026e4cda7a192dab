use Rattle.std.proofs.Common.{rules, of_calls, int_lt}
use Rattle.std.proofs.lemmas.Fn.{always_returns_same}
use Rattle.type_table.proofs.Halves.{rise_parted}
use Rattle.type_table.proofs.labels.count_below.Goals as goal

pub returns-clause-below : goal.returns-clause-below
returns-clause-below c = c.partition_point.ensures.partitioned (λ l. int_lt l.high c.args.value) (always_returns_same _ _ _ (λ a r f k. search (rules, of_calls))) (rise_parted c.args.value c.args.labels.now c.requires)
