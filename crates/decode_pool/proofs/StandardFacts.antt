-- What is missing between packets, found by hand, so that a slip in the definition does not check.
use Rattle.std.proofs.Common.{◌≡◌, refl, true, false, List, [], ◌∷◌, ℕ, None, Some}
use Rattle.trace_types.specs.declared.event.Event.{Event}
use Rattle.trace_types.specs.declared.event.KernelEvent.TheVariants.{Exit, Lost}
use Rattle.decode_pool.specs.declared.decoded_packet.AcceptedPacket.{AcceptedPacket}
use Rattle.decode_pool.specs.Marks.{is_gap, listed, lost_since, no_counts, nothing_lost}

-- packet 6 is the one after packet 5, and 7 isn't
pub gaps : (is_gap (Some (record { value = 5; size = 64 })) (Some (record { value = 6; size = 64 })) ≡ false) × (is_gap (Some (record { value = 5; size = 64 })) (Some (record { value = 7; size = 64 })) ≡ true)
gaps = (refl, refl)

-- a number of 8 bits is 0 after 255
pub begins_again : is_gap (Some (record { value = 255; size = 8 })) (Some (record { value = 0; size = 8 })) ≡ false
begins_again = refl

-- from 10 to 13 lost events there are 3, and from 250 to 4 of a count of 8 bits there are 10
pub losses : (lost_since (Some (record { value = 10; size = 64 })) (Some (record { value = 13; size = 64 })) ≡ 3) × (lost_since (Some (record { value = 250; size = 8 })) (Some (record { value = 4; size = 8 })) ≡ 10)
losses = (refl, refl)

-- a packet of processor 1, with its count of lost events
abbrev pub packet : ℕ → List Event → AcceptedPacket
packet discarded events = record { cpu = 1; seq = None; discarded = Some (record { value = discarded; size = 64 }); events = events; incomplete = 0 }

-- an event of processor 1 at 100
abbrev pub event : Event
event = record { time = 100; host = 0; cpu = 1; kind = Exit 7 }

-- two packets without events lost 2 and 3 events: one mark of 5 before the first event after them
pub one_mark : listed no_counts nothing_lost (packet 2 [] ∷ packet 5 [] ∷ packet 5 (event ∷ []) ∷ []) ≡ record { time = 100; host = 0; cpu = 1; kind = Lost 5 false } ∷ event ∷ []
one_mark = refl
