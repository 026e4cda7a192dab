use Rattle.host_tree.proofs.Order.{in_order}
use Rattle.host_tree.proofs.laws.trees_in_order.Goals as goal

pub returns : goal.returns
returns c = in_order
