-- A graph with what its look-ups rest on (this project's own).
use Rattle.std.specs.Prelude.{ℕ, ◌≡◌, ◌<◌, ◌^◌, Some, List, length, slice_get}
use Rattle.wait_graph.specs.declared.vertex.Vertex.{Vertex}
use Rattle.wait_graph.specs.declared.wake.Wake.{Wake}
use Rattle.wait_graph.specs.Graph.{EndsBefore, IsGraph, IsToward, WaitGraph}
use Rattle.wait_graph.specs.Changes.{order_of}
use Rattle.wait_graph.specs.Wakes.{wake_order, AllFit, AreWakes}
use Rattle.wait_graph.specs.Cuts.{Rises}

-- where a vertex stands in the order by host, tid and start
abbrev pub vertex_order : Vertex → ℕ
vertex_order v = order_of v.host v.tid v.start

-- the numbers of vertices are of 32 bits
abbrev pub FitAll : List Vertex → Type 0
FitAll vertices = (n : ℕ) (v : Vertex) → slice_get vertices n ≡ Some v → (v.tid < 2 ^ 32) × (v.start < 2 ^ 32)

-- the vertices and the waits for wakers are in order
pub record AreInOrder (vertices : List Vertex) (wakes : List Wake) : Type 0 where
  pub few : length vertices < 2 ^ 31
  pub rise : Rises vertex_order vertices
  pub fit : FitAll vertices
  pub wakes_are : AreWakes vertices (length vertices) wakes
  pub wakes_rise : Rises wake_order wakes
  pub wakes_fit : AllFit wakes

-- a graph of a merge, in order
pub record IsWhole (graph : WaitGraph) (wakes : List Wake) : Type 0 where
  pub graph_is : IsGraph graph
  pub few_keys : length graph.keys < 2 ^ 31
  pub in_order : AreInOrder graph.vertices wakes

-- the first wait for a waker: none for it ends before
pub record IsFirstWake (vertices : List Vertex) (host tid number : ℕ) : Type 0 where
  pub vertex : Vertex
  pub there : slice_get vertices number ≡ Some vertex
  pub toward : IsToward host tid vertex.link
  pub first : (k : ℕ) (w : Vertex) → slice_get vertices k ≡ Some w → IsToward host tid w.link → ¬ EndsBefore w vertex
