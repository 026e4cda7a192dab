-- What is known of each place of a merge (this project's own).
use Rattle.std.specs.Prelude.{ℕ, List}
use Rattle.std.specs.Prelude.{Option, None, Some, ◌==◌, if◌then◌else◌}
use Rattle.wait_graph.specs.declared.vertex.Link.{Link}
use Rattle.wait_graph.specs.declared.vertex.Link.TheVariants.{Interrupt, Net}
use Rattle.trace_types.specs.declared.event.Merged.{Merged}
use Rattle.host_merge.specs.declared.placed.Placed.{Placed}
use Rattle.wait_graph.specs.declared.moment.Moment.{Moment}
use Rattle.wait_graph.specs.Graph.{AreMessagePlaces}
use Rattle.wait_graph.specs.Moments.{AreMoments, AreSends}

-- the moments before all events of a merge, and the sends of the messages where they were received
pub record ArePlaces (merged : List Merged) (placed : List Placed) (moments : List Moment) (sends : List (Option ℕ)) : Type 0 where
  pub messages : AreMessagePlaces merged placed
  pub sends_are : AreSends merged placed sends
  pub moments_are : AreMoments merged placed moments

-- they are those of some messages
abbrev pub HavePlaces : List Merged → List Moment → List (Option ℕ) → Type 0
HavePlaces merged moments sends = (placed : List Placed) × ArePlaces merged placed moments sends

-- a message that was sent at a place while this thread ran there
abbrev pub sender_link : Option ℕ → ℕ → ℕ → Link
sender_link None host send = Interrupt
sender_link (Some tid) host send = if tid == 0 then Interrupt else Net host tid send
