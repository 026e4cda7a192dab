-- Where the events of messages stand in a merge, and which messages are inverted (this project's own).
use Rattle.std.specs.Prelude.{ℕ, ◌≡◌, ◌<◌, ◌==◌, Bool, false, Option, None, Some, List, length, count_by, filter, nat_lt, slice_get, take}
use Rattle.std.specs.List.{range_with_len}
use Rattle.message_match.specs.declared.message.Message.{Message}
use Rattle.trace_types.specs.declared.event.Merged.{Merged}
use Rattle.host_merge.specs.declared.placed.Placed.{Placed}

-- whether an event is of this host
abbrev pub is_of : ℕ → Merged → Bool
is_of host m = m.event.host == host

-- the event with this number among its host's stands at this place of the merge
pub record IsAt (merged : List Merged) (host number place : ℕ) : Type 0 where
  pub event : Merged
  pub there : slice_get merged place ≡ Some event
  pub of_host : event.event.host ≡ host
  pub before : count_by (is_of host) (take place merged) ≡ number

-- the merge has the message's two events
pub record IsAmong (merged : List Merged) (m : Message) : Type 0 where
  pub sent : m.send < count_by (is_of m.from) merged
  pub received : m.receive < count_by (is_of m.to) merged

-- where the two events of each message stand, in the order of the messages
pub record ArePlaced (merged : List Merged) (messages : List Message) (placed : List Placed) : Type 0 where
  pub count : length placed ≡ length messages
  pub each : (k : ℕ) (m : Message) (p : Placed) → slice_get messages k ≡ Some m → slice_get placed k ≡ Some p → IsAt merged m.from m.send p.send × IsAt merged m.to m.receive p.receive

-- whether the receive stands before the send
abbrev pub is_inverted : Option Placed → Bool
is_inverted None = false
is_inverted (Some p) = nat_lt p.receive p.send

-- the numbers of the inverted messages, ascending
abbrev pub inverted_among : List Placed → List ℕ
inverted_among placed = filter (λ k. is_inverted (slice_get placed k)) (range_with_len 0 (length placed))
