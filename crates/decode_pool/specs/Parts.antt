-- What the pieces of a stream file hold: a packet's events, or why there are none (CTF 1.8, section 5; what an event is, is this project's own).
use Rattle.std.specs.Prelude.{ℕ, ◌+◌, Bool, List, [], ◌∷◌, map, if◌then◌else◌}
use Rattle.type_table.specs.TraceMetas.{TraceMetaModel}
use Rattle.trace_types.specs.declared.event.Event.{Event}
use Rattle.ctf_fields.specs.declared.raw.RawEvent.{RawEvent}
use Rattle.packet_decoder.specs.declared.piece.PacketSpan.{PacketSpan}
use Rattle.packet_decoder.specs.declared.piece.PacketResult.{PacketResult}
use Rattle.packet_decoder.specs.declared.piece.PacketResult.TheVariants.{Events, Refused}
use Rattle.packet_decoder.specs.declared.piece.Piece.{Piece}
use Rattle.packet_decoder.specs.declared.piece.Piece.TheVariants as piece
use Rattle.packet_decoder.specs.Events.{decoded}
use Rattle.packet_decoder.specs.Pieces.{pieces}
use Rattle.kernel_layout.specs.Kinds.{kind_of}
use Rattle.decode_pool.specs.declared.decoded_packet.AcceptedPacket.{AcceptedPacket}
use Rattle.decode_pool.specs.declared.decoded_packet.DecodedPacket.{DecodedPacket}
use Rattle.decode_pool.specs.declared.decoded_packet.DecodedPacket.TheVariants as part

-- an event of a packet, as one of its host's
abbrev pub event_of : ℕ → TraceMetaModel → RawEvent → Event
event_of host meta raw = record { time = raw.time; host = host; cpu = raw.cpu; kind = (kind_of meta raw).0 }

-- the same, and whether it lacks a field
abbrev pub made_of : ℕ → TraceMetaModel → RawEvent → Event × Bool
made_of host meta raw = (event_of host meta raw, (kind_of meta raw).1)

-- how many events lack a field
abbrev pub incomplete_in : TraceMetaModel → List RawEvent → ℕ
incomplete_in meta [] = 0
incomplete_in meta (raw ∷ raws) = (if (kind_of meta raw).1 then 1 else 0) + incomplete_in meta raws

abbrev pub accepted_packet : ℕ → TraceMetaModel → PacketSpan → List RawEvent → AcceptedPacket
accepted_packet host meta span raws = record { cpu = span.cpu; seq = span.seq; discarded = span.discarded; events = map (event_of host meta) raws; incomplete = incomplete_in meta raws }

abbrev pub part_by : ℕ → TraceMetaModel → PacketSpan → PacketResult → DecodedPacket
part_by host meta span (Events raws) = part.Accepted (accepted_packet host meta span raws)
part_by host meta span (Refused cause) = part.Refused span.offset cause

abbrev pub part_of_packet : ℕ → TraceMetaModel → List ℕ → PacketSpan → DecodedPacket
part_of_packet host meta file span = part_by host meta span (decoded meta file span)

-- what a piece holds
unfoldable pub part_of : ℕ → TraceMetaModel → List ℕ → Piece → DecodedPacket
part_of host meta file (piece.Packet span) = part_of_packet host meta file span
part_of host meta file (piece.Bad offset cause) = part.Refused offset cause

-- what all pieces of a file hold
abbrev pub parts_of : ℕ → TraceMetaModel → List ℕ → List DecodedPacket
parts_of host meta file = map (part_of host meta file) (pieces meta file)
