-- The messages between hosts: segments that one host sent and another received, matched by what tells a segment from others (this project's own rule; Trace Compass matches the packets of traces by such keys).
use Rattle.std.specs.Prelude.{◌≡◌, ◌≢◌, ◌<◌, ◌≤◌, ◌⊎◌, ◌↔◌, ℕ, List, Some, length, slice_get, AllPairs, Contains}
use Rattle.trace_types.specs.declared.limits.TheConstants.{MAX_EVENTS}
use Rattle.trace_types.specs.declared.event.Event.{Event}
use Rattle.trace_types.specs.declared.event.KernelEvent.{KernelEvent}
use Rattle.trace_types.specs.declared.event.KernelEvent.TheVariants.{Send, Receive}
use Rattle.trace_types.specs.declared.host.HostEvents.{HostEvents}
use Rattle.trace_types.specs.declared.segment.SegKey.{SegKey}
use Rattle.message_match.specs.declared.message.Message.{Message}

-- each host's number is its place in the list
abbrev pub AreNumbered : List HostEvents → Type 0
AreNumbered hosts = (k : ℕ) (host : HostEvents) → slice_get hosts k ≡ Some host → host.host ≡ k

-- each host has as many events as a list may have
abbrev pub AreSmall : List HostEvents → Type 0
AreSmall hosts = (k : ℕ) (host : HostEvents) → slice_get hosts k ≡ Some host → length host.events.items ≤ MAX_EVENTS

-- the list of a host has at this place an event of this kind and time
pub record HasEvent (hosts : List HostEvents) (kind : KernelEvent) (host place time : ℕ) : Type 0 where
  pub list : HostEvents
  pub event : Event
  pub of_host : slice_get hosts host ≡ Some list
  pub at : slice_get list.events.items place ≡ Some event
  pub is_kind : event.kind ≡ kind
  pub is_time : event.time ≡ time

-- one host alone has such events, each told by its host, place and time, and this is its first
pub record IsFirstOfOneHost (Events : ℕ → ℕ → ℕ → Type 0) (host place time : ℕ) : Type 0 where
  pub here : Events host place time
  pub first : (p t : ℕ) → Events host p t → place ≤ p
  pub alone : (h p t : ℕ) → Events h p t → h ≡ host

-- the first send, of the one host that sends, and the first receive, of the one other host that receives
pub record IsMessageOf (Sends Receives : ℕ → ℕ → ℕ → Type 0) (m : Message) : Type 0 where
  pub sent : IsFirstOfOneHost Sends m.from m.send m.sent
  pub received : IsFirstOfOneHost Receives m.to m.receive m.received
  pub apart : m.from ≢ m.to

-- the message of a key
abbrev pub IsMessage : List HostEvents → SegKey → Message → Type 0
IsMessage hosts key m = IsMessageOf (HasEvent hosts (Send key)) (HasEvent hosts (Receive key)) m

-- segments of this key were sent and received, but are no message: several hosts sent them, or several received them, or one did both
pub record IsAmbiguous (hosts : List HostEvents) (key : SegKey) : Type 0 where
  pub sent : (host : ℕ) × (place : ℕ) × (time : ℕ) × HasEvent hosts (Send key) host place time
  pub received : (host : ℕ) × (place : ℕ) × (time : ℕ) × HasEvent hosts (Receive key) host place time
  pub unmatched : (m : Message) → ¬ IsMessage hosts key m

-- a place in the list of an earlier host, or an earlier place in one list
abbrev pub IsEarlier : ℕ → ℕ → ℕ → ℕ → Type 0
IsEarlier host place host' place' = (host < host') ⊎ ((host ≡ host') × (place < place'))

-- the one was sent at an earlier place than the other
abbrev pub Precedes : Message → Message → Type 0
Precedes m n = IsEarlier m.from m.send n.from n.send

-- as many as there are ambiguous keys
abbrev pub CountsAmbiguous : List HostEvents → ℕ → Type 0
CountsAmbiguous hosts count = (keys : List SegKey) × AllPairs ◌≢◌ keys × ((key : SegKey) → Contains keys key ↔ IsAmbiguous hosts key) × (count ≡ length keys)

-- the messages of all keys in the order of their sends, and the number of ambiguous keys
pub record AreMessages (hosts : List HostEvents) (matched : List Message) (ambiguous : ℕ) : Type 0 where
  pub members : (m : Message) → Contains matched m ↔ ((key : SegKey) × IsMessage hosts key m)
  pub order : AllPairs Precedes matched
  pub counted : CountsAmbiguous hosts ambiguous

-- hosts have one answer: two that are both right are equal
abbrev pub HaveOneAnswer : Type 0
HaveOneAnswer = (hosts : List HostEvents) (matched others : List Message) (ambiguous count : ℕ)
    → AreMessages hosts matched ambiguous → AreMessages hosts others count → (matched ≡ others) × (ambiguous ≡ count)
