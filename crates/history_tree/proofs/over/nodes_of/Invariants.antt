use Rattle.std.proofs.Common.{◌≡◌, map, take}
use Rattle.history_tree.specs.Over.{node_of}
use Rattle.history_tree.proofs.over.nodes_of.Given as goal

abbrev pub invariant-loop-place : goal.invariant-loop-place
invariant-loop-place l = l.numbers.items ≡ map node_of (take l.place-index l.places)
