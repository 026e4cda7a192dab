-- Where marks stand, and what they say, by the counts of neighbouring accepted packets (this project's own).
use Rattle.std.specs.Prelude.{◌≡◌, ◌≢◌, ◌↔◌, ◌⊎◌, ◌+◌, ◌-◌, ◌^◌, ℕ, Bool, true, List, [], ◌∷◌, ◌++◌, map, min}
use Rattle.trace_types.specs.declared.event.Event.{Event}
use Rattle.trace_types.specs.declared.event.KernelEvent.TheVariants.{Lost}
use Rattle.decode_pool.specs.declared.decoded_packet.AcceptedPacket.{AcceptedPacket}
use Rattle.decode_pool.specs.declared.lost_events.Counts.{Counts}
use Rattle.decode_pool.specs.Marks.{counts_of, is_gap, listed, lost_since, nothing_lost}

-- a packet without events
abbrev pub IsEmpty : AcceptedPacket → Type 0
IsEmpty k = k.events ≡ []

-- the counts of a packet, then those of packets, then those of one more: a stretch that a mark speaks of
abbrev pub stretch_of : Counts → List AcceptedPacket → AcceptedPacket → List Counts
stretch_of before empty k = before ∷ map counts_of (empty ++ k ∷ [])

-- in a stretch, one packet's counts and those of the packet next after it
abbrev pub AreNeighbours : List Counts → Counts → Counts → Type 0
AreNeighbours stretch a b = (front rest : List Counts) × (stretch ≡ front ++ a ∷ b ∷ rest)

-- something is missing between two packets where there is a gap in their numbers, or events were lost
abbrev pub IsMissing : Counts → Counts → Type 0
IsMissing a b = (is_gap a.seq b.seq ≡ true) ⊎ (lost_since a.discarded b.discarded ≢ 0)

-- nothing is missing between any two neighbours of a stretch
abbrev pub IsWhole : List Counts → Type 0
IsWhole stretch = (a b : Counts) → AreNeighbours stretch a b → ¬ IsMissing a b

-- packets are missing over a stretch where some two neighbours have a gap
abbrev pub LacksPackets : List Counts → Type 0
LacksPackets stretch = (a b : Counts) × AreNeighbours stretch a b × (is_gap a.seq b.seq ≡ true)

-- how many events are missing over a stretch: the sum of those lost between its neighbours
abbrev pub lost_over : List Counts → ℕ
lost_over [] = 0
lost_over (a ∷ []) = 0
lost_over (a ∷ b ∷ rest) = lost_since a.discarded b.discarded + lost_over (b ∷ rest)

-- the mark of a stretch before a packet's first event: how many events are missing, 2^64 - 1 where they are more, and whether packets are
pub record IsMark (stretch : List Counts) (k : AcceptedPacket) (first : Event) (m : Event) : Type 0 where
  pub gap : Bool
  pub mark : m ≡ record { time = first.time; host = first.host; cpu = k.cpu; kind = Lost (min (lost_over stretch) (2 ^ 64 - 1)) gap }
  pub packets : (gap ≡ true) ↔ LacksPackets stretch

-- after packets without events, a packet's events come after one mark, or after none exactly where nothing is missing
pub record MarksAreWhereEventsAreMissing (before : Counts) (empty : List AcceptedPacket) (k : AcceptedPacket) (first : Event) (after : List AcceptedPacket) : Type 0 where
  pub marks : List Event
  pub reported : listed before nothing_lost (empty ++ k ∷ after) ≡ marks ++ (k.events ++ listed (counts_of k) nothing_lost after)
  pub none : (marks ≡ []) ↔ IsWhole (stretch_of before empty k)
  pub one : (marks ≡ []) ⊎ ((m : Event) × (marks ≡ m ∷ []) × IsMark (stretch_of before empty k) k first m)
