use Rattle.std.proofs.Common.{◌≡◌, ◌-◌, ◌≤◌, ◌^◌, IfSome}
use Rattle.packet_decoder.specs.Events.{cleared}
use Rattle.packet_decoder.specs.EventReaders.{IsSeen, SingleFits, events_after, refusal}
use Rattle.packet_decoder.proofs.passing.pass_rest.Given as goal

abbrev pub invariant-loop-cursor : goal.invariant-loop-cursor
invariant-loop-cursor l =
    (refusal (events_after l.packet (cleared l.scopes) l.cursor l.read) ≡ refusal (events_after l.packet (cleared l.fn.scopes) l.fn.first l.fn.before))
    × IsSeen l.packet l.seen × IfSome l.single (SingleFits l.packet.meta.table l.packet.parts.event_header) × (l.read ≤ l.cursor.at) × (l.cursor.at ≤ 2 ^ 63)

abbrev pub decreases-loop-cursor : goal.decreases-loop-cursor
decreases-loop-cursor l = l.packet.end - l.cursor.at
