-- Stretches of threads' states, from sorted changes (this project's own).
use Rattle.std.specs.Prelude.{ℕ, ◌≡◌, ◌≢◌, ◌+◌, ◌-◌, ◌==◌, ◌&&◌, Bool, false, nat_lt, if◌then◌else◌, Option, None, Some, List, length, slice_get}
use Rattle.std.specs.Option.{option_map}
use Rattle.trace_types.specs.declared.event.Merged.{Merged}
use Rattle.host_merge.specs.declared.placed.Placed.{Placed}
use Rattle.wait_graph.specs.declared.change.Change.{Change}
use Rattle.wait_graph.specs.declared.vertex.Vertex.{Vertex}
use Rattle.wait_graph.specs.declared.vertex.Link.{Link}
use Rattle.wait_graph.specs.declared.vertex.Link.TheVariants.{Nothing}
use Rattle.wait_graph.specs.declared.vertex.ThreadState.TheVariants.{Blocked}
use Rattle.wait_graph.specs.Links.{IsLinkAt}

-- both are there, and of one thread
abbrev pub are_of_one : Option Change → Option Change → Bool
are_of_one None b = false
are_of_one (Some c) None = false
are_of_one (Some c) (Some d) = (c.host == d.host) && (c.tid == d.tid)

-- the change after this one is of its thread
abbrev pub is_joined : List Change → ℕ → Bool
is_joined changes number = are_of_one (slice_get changes number) (slice_get changes (number + 1))

-- the number of the thread's next change
abbrev pub next_of : List Change → ℕ → Option ℕ
next_of changes number = if is_joined changes number then Some (number + 1) else None

-- its place
abbrev pub end_of : List Change → ℕ → Option ℕ
end_of changes number = if is_joined changes number then option_map (λ c. c.place) (slice_get changes (number + 1)) else None

-- the number of the thread's change before
abbrev pub before_of : List Change → ℕ → Option ℕ
before_of changes number = if nat_lt 0 number && is_joined changes (number - 1) then Some (number - 1) else None

-- what ended the wait that a change began
pub record IsEndLink (merged : List Merged) (placed : List Placed) (change : Change) (end : Option ℕ) (link : Link) : Type 0 where
  pub waited : (p : ℕ) (e : Merged) → change.state ≡ Blocked → end ≡ Some p → slice_get merged p ≡ Some e → IsLinkAt merged placed e.event.host change.tid p link
  pub still : end ≡ None → link ≡ Nothing
  pub other : change.state ≢ Blocked → link ≡ Nothing

-- the vertex of a change
pub record IsVertexOf (merged : List Merged) (placed : List Placed) (changes : List Change) (number : ℕ) (c : Change) (v : Vertex) : Type 0 where
  pub host : v.host ≡ c.host
  pub tid : v.tid ≡ c.tid
  pub state : v.state ≡ c.state
  pub start : v.start ≡ c.place
  pub end : v.end ≡ end_of changes number
  pub next : v.next ≡ next_of changes number
  pub before : v.before ≡ before_of changes number
  pub link : IsEndLink merged placed c (end_of changes number) v.link

-- one vertex for each change, by its number
pub record AreVerticesOf (merged : List Merged) (placed : List Placed) (changes : List Change) (vertices : List Vertex) : Type 0 where
  pub count : length vertices ≡ length changes
  pub each : (number : ℕ) (c : Change) (v : Vertex) → slice_get changes number ≡ Some c → slice_get vertices number ≡ Some v → IsVertexOf merged placed changes number c v

-- no waker's chain is known yet
abbrev pub AreUnwoven : List Vertex → Type 0
AreUnwoven vertices = (number : ℕ) (v : Vertex) → slice_get vertices number ≡ Some v → (v.wake_next ≡ None) × (v.wake_before ≡ None)
