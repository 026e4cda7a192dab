use Rattle.std.proofs.Common.{◌≡◌, ◌∙◌, ap, rules, subst, sym}
use Rattle.ctf_fields.specs.declared.raw.RawEvent.{RawEvent}
use Rattle.kernel_layout.specs.Tracepoints.{skips_of}
use Rattle.packet_decoder.specs.Events.{PacketModel}
use Rattle.packet_decoder.specs.EventReaders.{EventReaderModel, IsReadAs, and_before, events_left}
use Rattle.decode_pool.proofs.decoded_packet.next_made.Goals as goal

pub returns-in-Some-clause-some : goal.returns-in-Some-clause-some
returns-in-Some-clause-some c =
    let w = c.args.reader.now.within in
    let read_so : (whole : RawEvent) × IsReadAs w.meta w.bytes w.end c.skips-skips.result.now whole c.in-Some.read × (events_left c.args.reader.now ≡ and_before whole (events_left c.next_event_of.new.self)) = search rules in
    let stays : c.next_event_of.new.self.within ≡ w = search rules in
    let by_skips : IsReadAs w.meta w.bytes w.end (skips_of c.args.meta.now) read_so.0 c.in-Some.read = subst (λ skips. IsReadAs w.meta w.bytes w.end skips read_so.0 c.in-Some.read) c.skips-skips.ensures.skips read_so.1 in
    let from_packet = subst (λ (x : PacketModel). IsReadAs x.meta x.bytes x.end (skips_of c.args.meta.now) read_so.0 c.in-Some.read) (sym stays) by_skips in
    (read_so.0, c.made_event.ensures.made read_so.0 from_packet, read_so.2 ∙ ap (λ (r : EventReaderModel). and_before read_so.0 (events_left r)) (sym c.made_event.ensures.reader))
