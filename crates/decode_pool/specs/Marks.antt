-- Marks where events of a processor are missing, among the events of a file's accepted packets (this project's own).
use Rattle.std.specs.Prelude.{ℕ, ◌+◌, ◌-◌, ◌%◌, ◌^◌, ◌==◌, ◌&&◌, ◌||◌, not, min, Bool, false, List, [], ◌∷◌, ◌++◌, Option, Some, None, if◌then◌else◌}
use Rattle.trace_types.specs.declared.event.Event.{Event}
use Rattle.trace_types.specs.declared.event.KernelEvent.TheVariants.{Lost}
use Rattle.packet_decoder.specs.declared.piece.Counter.{Counter}
use Rattle.decode_pool.specs.declared.decoded_packet.AcceptedPacket.{AcceptedPacket}
use Rattle.decode_pool.specs.declared.decoded_packet.DecodedPacket.{DecodedPacket}
use Rattle.decode_pool.specs.declared.decoded_packet.DecodedPacket.TheVariants as part
use Rattle.decode_pool.specs.declared.lost_events.LostEvents.{LostEvents}
use Rattle.decode_pool.specs.declared.lost_events.Counts.{Counts}

-- after how many counts a counter begins again; no counter has more than 64 bits
abbrev pub span_of : Counter → ℕ
span_of c = 2 ^ min c.size 64

-- packets are missing where two packets have numbers, and the later isn't the one after the earlier
abbrev pub is_gap : Option Counter → Option Counter → Bool
is_gap (Some before) (Some now) = not (now.value == (before.value + 1) % span_of now)
is_gap before now = false

-- a count that isn't there is 0
abbrev pub value_of : Option Counter → ℕ
value_of None = 0
value_of (Some c) = c.value

-- how many events were lost since the packet before; a count that fell began again from 0
abbrev pub lost_since : Option Counter → Option Counter → ℕ
lost_since before None = 0
lost_since before (Some now) = (now.value + (span_of now - value_of before % span_of now)) % span_of now

-- what is missing so far: how many events, 2^64 - 1 where they are more, and whether packets are
abbrev pub nothing_lost : LostEvents
nothing_lost = record { events = 0; gap = false }

abbrev pub plus_lost : LostEvents → Counts → Counts → LostEvents
plus_lost lost before now = record { events = min (lost.events + lost_since before.discarded now.discarded) (2 ^ 64 - 1); gap = lost.gap || is_gap before.seq now.seq }

abbrev pub counts_of : AcceptedPacket → Counts
counts_of k = record { seq = k.seq; discarded = k.discarded }

-- a mark on the packet's processor, at the time of its first event, where something is missing
abbrev pub mark : AcceptedPacket → Event → LostEvents → List Event
mark k first lost = if lost.events == 0 && not lost.gap then [] else record { time = first.time; host = first.host; cpu = k.cpu; kind = Lost lost.events lost.gap } ∷ []

-- a packet's events, after such a mark
abbrev pub added_by : AcceptedPacket → LostEvents → List Event → List Event
added_by k lost [] = []
added_by k lost (e ∷ es) = mark k e lost ++ e ∷ es

abbrev pub added : AcceptedPacket → LostEvents → List Event
added k lost = added_by k lost k.events

-- what is missing before a packet without events is reported at the next one that has some
abbrev pub left_by : LostEvents → List Event → LostEvents
left_by lost [] = lost
left_by lost (e ∷ es) = nothing_lost

abbrev pub left : AcceptedPacket → LostEvents → LostEvents
left k lost = left_by lost k.events

-- the events of accepted packets, one after the other, with the marks; before them stands a packet with these counts, and so much is missing
abbrev pub listed : Counts → LostEvents → List AcceptedPacket → List Event
listed before lost [] = []
listed before lost (k ∷ ks) = added k (plus_lost lost before (counts_of k)) ++ listed (counts_of k) (left k (plus_lost lost before (counts_of k))) ks

-- the accepted packets among parts
abbrev pub accepted_in : List DecodedPacket → List AcceptedPacket
accepted_in [] = []
accepted_in (part.Accepted k ∷ ps) = k ∷ accepted_in ps
accepted_in (part.Refused offset cause ∷ ps) = accepted_in ps

abbrev pub no_counts : Counts
no_counts = record { seq = None; discarded = None }

-- the events of a file, with the marks
abbrev pub file_events : List DecodedPacket → List Event
file_events ps = listed no_counts nothing_lost (accepted_in ps)
