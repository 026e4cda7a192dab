use Rattle.std.proofs.Common.{rules}
use Rattle.std.proofs.lemmas.List.Sorted.{IsNonDecreasingBy-from_sort_by_key}
use Rattle.wait_graph.specs.Changes.{change_order}
use Rattle.wait_graph.proofs.sorting.sort_changes.Goals as goal

pub returns-clause-sorted : goal.returns-clause-sorted
returns-clause-sorted c = IsNonDecreasingBy-from_sort_by_key change_order c.sort_unstable_by_key.new.self c.sort_unstable_by_key.ensures.sorted (λ a r f k. search rules)
