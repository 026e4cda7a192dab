use Rattle.host_tree.proofs.Order.{one_forest, same_pairs}
use Rattle.host_tree.proofs.laws.one_forest.Goals as goal

pub returns-clause-pairs : goal.returns-clause-pairs
returns-clause-pairs c = same_pairs

pub returns-clause-one : goal.returns-clause-one
returns-clause-one c = one_forest
