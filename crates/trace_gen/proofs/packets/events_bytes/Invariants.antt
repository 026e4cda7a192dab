use Rattle.std.proofs.Common.{◌≡◌, ◌≤◌, ◌*◌, ◌++◌, drop, length}
use Rattle.trace_gen.specs.Layout.{events_bytes}
use Rattle.trace_gen.proofs.packets.events_bytes.Given as goal

abbrev pub invariant-loop-event : goal.invariant-loop-event
invariant-loop-event l = (l.bytes.items ++ events_bytes (drop l.event-index l.events) ≡ events_bytes l.events)
    × (length l.bytes.items ≤ 104 * l.event-index)
