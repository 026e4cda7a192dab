use Rattle.std.proofs.Common.{◌≡◌, ◌+◌, length, filter, flat_map, take}
use Rattle.history_tree.specs.Over.{may_hold, sought_in}
use Rattle.history_tree.proofs.over.read_nodes.Given as goal

abbrev pub invariant-loop-number : goal.invariant-loop-number
invariant-loop-number l = record {
  found : l.found.items ≡ flat_map (sought_in l.sought l.nodes.nodes) (take l.number-index l.numbers);
  reads : l.reads ≡ l.fn.reads + length (filter (may_hold l.sought l.nodes.nodes) (take l.number-index l.numbers));
}
