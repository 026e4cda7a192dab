use Rattle.std.proofs.Common.{ℕ, ◌≡◌, List, Some, length, slice_get}
use Rattle.host_merge.specs.declared.placed.Placed.{Placed as PlacedMessage}
use Rattle.wait_graph.specs.declared.change.Change.{Change as StateChange}
use Rattle.wait_graph.specs.declared.vertex.Vertex.{Vertex}
use Rattle.wait_graph.specs.Places.{ArePlaces}
use Rattle.wait_graph.specs.Stretches.{AreUnwoven, IsVertexOf}
use Rattle.wait_graph.proofs.stretches.stretches.Given as goal

abbrev pub invariant-loop-number : goal.invariant-loop-number
invariant-loop-number l = record {
  each : (placed : List PlacedMessage) → ArePlaces l.places.merged.now placed l.places.moments.now l.places.sends.now → (n : ℕ) (c : StateChange) (v : Vertex) → slice_get l.changes n ≡ Some c → slice_get l.vertices.items n ≡ Some v → IsVertexOf l.places.merged.now placed l.changes n c v;
  unwoven : AreUnwoven l.vertices.items;
  count : length l.vertices.items ≡ l.number;
}
