-- What a merge keeps of the hosts' lists, and which events come first (this project's own).
use Rattle.std.specs.Prelude.{ℕ, ◌≡◌, ◌<◌, ◌≤◌, ◌⊎◌, All, Contains, Some, List, [], ◌∷◌, length, filter, map, slice_get}
use Rattle.clock_fraction.specs.declared.pair_map.PairMap.{PairMap}
use Rattle.hull_lines.specs.declared.outcome.Fit.{Fit}
use Rattle.message_match.specs.declared.message.Message.{Message}
use Rattle.message_match.specs.Messages.{AreMessages}
use Rattle.host_tree.specs.declared.parent.Parent.{Parent}
use Rattle.host_tree.specs.declared.parent.Parent.TheVariants.{Root, Child}
use Rattle.host_tree.specs.Fits.{AreFits}
use Rattle.host_tree.specs.Forest.{AreParents}
use Rattle.host_tree.specs.Points.{IsBetween}
use Rattle.host_tree.specs.Rooted.{LeadToRoots}
use Rattle.trace_types.specs.Order.{RiseFrom}
use Rattle.trace_types.specs.declared.event.Event.{Event}
use Rattle.trace_types.specs.declared.event.Merged.{Merged}
use Rattle.trace_types.specs.declared.host.HostEvents.{HostEvents}
use Rattle.host_merge.specs.declared.placed.Placed.{Placed}
use Rattle.host_merge.specs.Merge.{HaveTimes, IsMergeOf, with_own_time}
use Rattle.host_merge.specs.Placed.{ArePlaced, IsAmong, IsAt, inverted_among, is_of}

-- the event stands at this place of the list of this host
pub record HasListed (hosts : List HostEvents) (u k : ℕ) (event : Event) : Type 0 where
  pub host : HostEvents
  pub of_host : slice_get hosts u ≡ Some host
  pub at : slice_get host.events.items k ≡ Some event

-- each event has the number of its host
abbrev pub AreOwn : List HostEvents → Type 0
AreOwn hosts = (u k : ℕ) (event : Event) → HasListed hosts u k event → event.host ≡ u

-- each list is in order of time
abbrev pub AreInTime : List HostEvents → Type 0
AreInTime hosts = (u : ℕ) (host : HostEvents) → slice_get hosts u ≡ Some host → RiseFrom 0 (map with_own_time host.events.items)

-- the merge has the events of each host in the order of its list, and no others
pub record KeepsOrder (hosts : List HostEvents) (merged : List Merged) : Type 0 where
  pub kept : (u : ℕ) (host : HostEvents) → slice_get hosts u ≡ Some host → map (λ m. m.event) (filter (is_of u) merged) ≡ host.events.items
  pub known : All (λ m. m.event.host < length hosts) merged

-- a forest's merge of lists in order of time keeps them
abbrev pub MergesKeepOrder : Type 0
MergesKeepOrder = (parents : List Parent) (hosts : List HostEvents) (merged : List Merged) → length parents ≡ length hosts → LeadToRoots parents → AreOwn hosts → AreInTime hosts → IsMergeOf parents hosts merged → KeepsOrder hosts merged

-- all times are at least 1
abbrev pub AreFromOne : List HostEvents → Type 0
AreFromOne hosts = (u k : ℕ) (event : Event) → HasListed hosts u k event → 1 ≤ event.time

-- the messages of hosts go between them, at times that events have
abbrev pub MessagesGoBetween : Type 0
MessagesGoBetween = (hosts : List HostEvents) (matched : List Message) (ambiguous : ℕ) → HaveTimes hosts → AreFromOne hosts → AreMessages hosts matched ambiguous → All (IsBetween (length hosts)) matched

-- a merge that keeps the hosts' lists has the events of their messages
abbrev pub MessagesAreAmong : Type 0
MessagesAreAmong = (hosts : List HostEvents) (matched : List Message) (ambiguous : ℕ) (merged : List Merged) → AreMessages hosts matched ambiguous → KeepsOrder hosts merged → All (IsAmong merged) matched

-- one of the two hosts is the other's parent
abbrev pub IsTreePair : List Parent → ℕ → ℕ → Type 0
IsTreePair parents a b = (map : PairMap) × ((slice_get parents b ≡ Some (Child a map)) ⊎ (slice_get parents a ≡ Some (Child b map)))

-- a merge of lists in order of time, over the forest that comes of the messages between their hosts
pub record IsMergeByMessages (hosts : List HostEvents) (matched : List Message) (fits : List Fit) (parents : List Parent) (merged : List Merged) : Type 0 where
  pub own : AreOwn hosts
  pub in_time : AreInTime hosts
  pub from_one : AreFromOne hosts
  pub ambiguous : ℕ
  pub messages : AreMessages hosts matched ambiguous
  pub drift : ℕ
  pub fits_are : AreFits (length hosts) matched drift fits
  pub forest : AreParents (length hosts) fits parents
  pub merge : IsMergeOf parents hosts merged

-- by such a merge, each message between a host and its parent is sent before it is received
abbrev pub SendsComeFirst : Type 0
SendsComeFirst = (hosts : List HostEvents) (matched : List Message) (fits : List Fit) (parents : List Parent) (merged : List Merged) → IsMergeByMessages hosts matched fits parents merged
    → (k : ℕ) (m : Message) (send receive : ℕ) → slice_get matched k ≡ Some m → IsTreePair parents m.from m.to → IsAt merged m.from m.send send → IsAt merged m.to m.receive receive → send < receive

-- and none of them is inverted
abbrev pub NoTreePairIsInverted : Type 0
NoTreePairIsInverted = (hosts : List HostEvents) (matched : List Message) (fits : List Fit) (parents : List Parent) (merged : List Merged) (placed : List Placed) → IsMergeByMessages hosts matched fits parents merged → ArePlaced merged matched placed
    → (k : ℕ) (m : Message) → slice_get matched k ≡ Some m → IsTreePair parents m.from m.to → ¬ Contains (inverted_among placed) k

-- a forest and lists have one merge
abbrev pub HaveOneMerge : Type 0
HaveOneMerge = (parents : List Parent) (hosts : List HostEvents) (merged others : List Merged) → length parents ≡ length hosts → LeadToRoots parents → IsMergeOf parents hosts merged → IsMergeOf parents hosts others → merged ≡ others

-- the merge of one host alone is its own list
abbrev pub OneHostStandsAlone : Type 0
OneHostStandsAlone = (host : HostEvents) (merged : List Merged) → AreInTime (host ∷ []) → IsMergeOf (Root ∷ []) (host ∷ []) merged → merged ≡ map with_own_time host.events.items
