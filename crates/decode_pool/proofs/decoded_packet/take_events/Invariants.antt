use Rattle.std.proofs.Common.{◌≡◌, ◌≤◌, ◌-◌, length}
use Rattle.packet_decoder.specs.Events.{as_packet}
use Rattle.packet_decoder.specs.EventReaders.{events_left}
use Rattle.decode_pool.specs.Parts.{part_by}
use Rattle.decode_pool.proofs.Reading.{with_left}
use Rattle.decode_pool.proofs.decoded_packet.take_events.Given as goal

abbrev pub invariant-loop-events : goal.invariant-loop-events
invariant-loop-events l = (part_by l.host l.meta l.span (as_packet (events_left l.fn.reader)) ≡ with_left l.host l.meta l.span l.events l.incomplete (events_left l.reader)) × (l.incomplete ≤ l.reader.read) × (length l.events ≤ l.most) × (l.reader.within.meta ≡ l.meta)

abbrev pub decreases-loop-events : goal.decreases-loop-events
decreases-loop-events l = l.reader.within.end - l.reader.read
