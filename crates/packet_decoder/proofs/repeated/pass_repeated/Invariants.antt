use Rattle.std.proofs.Common.{◌≡◌, ◌-◌, ◌≤◌, ◌^◌}
use Rattle.ctf_fields.specs.Fields.{Scopes}
use Rattle.packet_decoder.specs.Events.{cleared}
use Rattle.packet_decoder.specs.EventReaders.{events_after, refusal}
use Rattle.packet_decoder.proofs.repeated.pass_repeated.Given as goal

abbrev pub invariant-loop-next : goal.invariant-loop-next
invariant-loop-next l = record {
  same : (scopes : Scopes) → refusal (events_after l.packet (cleared scopes) (record { clock = l.clock; at = l.at }) l.read) ≡ refusal (events_after l.packet (cleared scopes) l.fn.first l.before);
  few : l.read ≤ l.at;
  forward : l.fn.first.at ≤ l.at;
  small : l.at ≤ 2 ^ 63;
}

abbrev pub decreases-loop-next : goal.decreases-loop-next
decreases-loop-next l = l.packet.end - l.at
