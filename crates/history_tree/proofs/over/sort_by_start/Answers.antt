use Rattle.std.proofs.Common.{rules}
use Rattle.std.proofs.lemmas.List.Sorted.{IsNonDecreasingBy-from_sort_by_key}
use Rattle.history_tree.specs.Over.{start_in}
use Rattle.history_tree.proofs.over.sort_by_start.Goals as goal

pub returns-clause-sorted : goal.returns-clause-sorted
returns-clause-sorted c = IsNonDecreasingBy-from_sort_by_key start_in c.sort_unstable_by_key.new.self c.sort_unstable_by_key.ensures.sorted (λ a r f k. search rules)
