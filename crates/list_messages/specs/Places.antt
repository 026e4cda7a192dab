-- Where the events of messages stand in a merge, and those of an event list (this project's own).
use Rattle.std.specs.Prelude.{ℕ, ◌<◌, ◌≤◌, ◌^◌, List, length}
use Rattle.std.specs.List.{AllByRecursion}
use Rattle.trace_types.specs.Order.{RiseFrom}
use Rattle.trace_types.specs.declared.limits.TheConstants.{MAX_EVENTS, MAX_HOSTS}
use Rattle.trace_types.specs.declared.event.Merged.{Merged}
use Rattle.trace_types.specs.declared.host.HostEvents.{HostEvents}
use Rattle.event_list.specs.Splits.{AreHostsFrom}
use Rattle.event_list.specs.declared.trace.MergedTrace.{MergedTrace}
use Rattle.message_match.specs.declared.message.Message.{Message}
use Rattle.message_match.specs.Messages.{AreMessages}
use Rattle.host_merge.specs.declared.placed.Placed.{Placed}
use Rattle.host_merge.specs.Kept.{KeepsOrder}
use Rattle.host_merge.specs.Placed.{ArePlaced}
use Rattle.wait_graph.specs.Graph.{AreMessagePlaces}

-- the places of hosts' messages, in a merge that keeps the hosts' lists, are those of sends and receives, and no receive stands twice
abbrev pub MessagesAtEvents : Type 0
MessagesAtEvents = (hosts : List HostEvents) (matched : List Message) (ambiguous : ℕ) (merged : List Merged) (placed : List Placed) → AreMessages hosts matched ambiguous → KeepsOrder hosts merged → ArePlaced merged matched placed → AreMessagePlaces merged placed

-- events whose keys never fall and lie before the end of time, of not too many, and a list of names for each of their hosts, which are few
pub record IsReadTrace (trace : MergedTrace) : Type 0 where
  pub rises : RiseFrom 0 trace.events.items
  pub below : AllByRecursion (λ m. m.key < 2 ^ 62) trace.events.items
  pub few : length trace.events.items ≤ MAX_EVENTS
  pub have_names : AllByRecursion (λ m. m.event.host < length trace.names.items) trace.events.items
  pub few_hosts : length trace.names.items ≤ MAX_HOSTS

-- the messages among the hosts of a list, and where they stand in its merge
pub record AreListPlaces (trace : MergedTrace) (placed : List Placed) : Type 0 where
  pub hosts : List HostEvents
  pub are_hosts : AreHostsFrom trace.events.items 0 trace.names.items hosts
  pub matched : List Message
  pub ambiguous : ℕ
  pub messages : AreMessages hosts matched ambiguous
  pub are_placed : ArePlaced trace.events.items matched placed
