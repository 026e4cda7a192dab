-- What the look-ups find (this project's own).
use Rattle.std.specs.Prelude.{ℕ, ◌≡◌, ◌<◌, ◌≤◌, Some, List, slice_get}
use Rattle.wait_graph.specs.declared.vertex.Vertex.{Vertex}
use Rattle.wait_graph.specs.declared.wake.Wake.{Wake}

-- of the vertices of a thread, the last that begins at or before a place
pub record IsLatest (vertices : List Vertex) (host tid place number : ℕ) : Type 0 where
  pub vertex : Vertex
  pub there : slice_get vertices number ≡ Some vertex
  pub of_host : vertex.host ≡ host
  pub of_tid : vertex.tid ≡ tid
  pub begun : vertex.start ≤ place
  pub later : (k : ℕ) (w : Vertex) → slice_get vertices k ≡ Some w → w.host ≡ host → w.tid ≡ tid → vertex.start < w.start → place < w.start

-- of the waits for a waker, the one that ends first, by its vertex's number
pub record IsFirstOf (wakes : List Wake) (host tid number : ℕ) : Type 0 where
  pub index : ℕ
  pub wake : Wake
  pub there : slice_get wakes index ≡ Some wake
  pub is_number : wake.number ≡ number
  pub of_host : wake.host ≡ host
  pub of_tid : wake.tid ≡ tid
  pub first : (k : ℕ) (w : Wake) → slice_get wakes k ≡ Some w → w.host ≡ host → w.tid ≡ tid → wake.end ≤ w.end
