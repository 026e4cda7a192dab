use Rattle.std.proofs.Common.{List}
use Rattle.host_merge.specs.declared.placed.Placed.{Placed as PlacedMessage}
use Rattle.wait_graph.specs.Graph.{AreMessagePlaces}
use Rattle.wait_graph.specs.Moments.{AreSends, ArePassed}
use Rattle.wait_graph.proofs.moments.moments.Given as goal

abbrev pub invariant-loop-place : goal.invariant-loop-place
invariant-loop-place l = (placed : List PlacedMessage) → AreMessagePlaces l.merged placed → AreSends l.merged placed l.sends → ArePassed l.merged placed l.place l.cpus.entries l.moments.items
