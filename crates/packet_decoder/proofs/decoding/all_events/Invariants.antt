use Rattle.std.proofs.Common.{◌≡◌, ◌-◌}
use Rattle.packet_decoder.specs.Events.{as_packet, decoded}
use Rattle.packet_decoder.specs.EventReaders.{events_left}
use Rattle.packet_decoder.proofs.Left.{behind}
use Rattle.packet_decoder.proofs.decoding.all_events.Given as goal

abbrev pub invariant-loop-events : goal.invariant-loop-events
invariant-loop-events l = decoded l.meta l.file l.span ≡ as_packet (behind l.events (events_left l.reader))

abbrev pub decreases-loop-events : goal.decreases-loop-events
decreases-loop-events l = l.reader.within.end - l.reader.read
