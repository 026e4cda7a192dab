-- Parts that hold too many events to be kept (this project's own).
use Rattle.std.specs.Prelude.{ℕ, suc, ◌+◌, List, [], ◌∷◌, length, nat_le, Option, None, Some, if◌then◌else◌}
use Rattle.decode_pool.specs.declared.decoded_packet.DecodedPacket.{DecodedPacket}
use Rattle.decode_pool.specs.declared.decoded_packet.DecodedPacket.TheVariants as part

-- a part of at most so many events
abbrev pub part_within : ℕ → DecodedPacket → Option DecodedPacket
part_within most (part.Accepted k) = if nat_le (length k.events) most then Some (part.Accepted k) else None
part_within most (part.Refused offset cause) = Some (part.Refused offset cause)

-- how many events a part has
abbrev pub part_events : DecodedPacket → ℕ
part_events (part.Accepted k) = length k.events
part_events (part.Refused offset cause) = 0

abbrev pub events_in : List DecodedPacket → ℕ
events_in [] = 0
events_in (p ∷ ps) = part_events p + events_in ps

-- the parts that are kept
abbrev pub kept_parts : List (Option DecodedPacket) → List DecodedPacket
kept_parts [] = []
kept_parts (Some p ∷ ps) = p ∷ kept_parts ps
kept_parts (None ∷ ps) = kept_parts ps

-- how many events there are at least, where one that isn't kept has more than `most`
abbrev pub least_events : ℕ → List (Option DecodedPacket) → ℕ
least_events most [] = 0
least_events most (Some p ∷ ps) = part_events p + least_events most ps
least_events most (None ∷ ps) = suc most + least_events most ps
