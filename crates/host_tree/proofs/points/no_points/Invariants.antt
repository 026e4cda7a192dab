use Rattle.std.proofs.Common.{◌≡◌, [], replicate}
use Rattle.host_tree.proofs.points.no_points.Given as goal

abbrev pub invariant-loop : goal.invariant-loop
invariant-loop l = l.lists.items ≡ replicate l.counter []
