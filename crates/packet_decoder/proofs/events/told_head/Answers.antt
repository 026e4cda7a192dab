use Rattle.std.proofs.Common.{◌≡◌, ◌∙◌, Ok, Some, sym, subst, ap}
use Rattle.read_plan.specs.Headers.{as_answer, header_read}
use Rattle.packet_decoder.specs.EventReaders.{HeadToldAs, NamedAs, PlanFits}
use Rattle.packet_decoder.specs.Events.{PacketModel, event_by, event_head}
use Rattle.packet_decoder.specs.Times.{timestamp_in}
use Rattle.packet_decoder.specs.Values.{id_in}
use Rattle.packet_decoder.proofs.PlannedHeads.{head_told}
use Rattle.packet_decoder.proofs.events.told_head.Goals as goal

pub returns-clause-answers : goal.returns-clause-answers
returns-clause-answers c = λ scopes.
    let r = c.packet.inside in
    let w : PacketModel = record { meta = r.meta.now; bytes = r.bits.bytes.now; end = r.bits.end; stream = r.stream; parts = r.parts; cpu = r.cpu } in
    let told = c.in-Ok.read.0 in
    let event = c.in-Some.event in
    let bare = c.in-Some.is_bare in
    let stamp = c.timestamp_in-timestamp.result in
    let fits = subst (λ (u : PacketModel). PlanFits u.meta.table u.parts.event_header (Some c.args.plan.now)) (sym c.packet.view_is) c.requires.fits in
    let answer : Ok (told, c.in-Ok.read.1) ≡ as_answer (header_read w.bytes w.end c.args.plan.now c.args.at) = sym c.in-Ok.is ∙ c.read.ensures.exact in
    let named : NamedAs w (event_by w.meta w.stream (id_in told.id)) (Some (event, bare)) =
    subst (λ (u : PacketModel). NamedAs u (event_by u.meta u.stream (id_in told.id)) (Some (event, bare))) (sym c.packet.view_is)
    (subst (λ id. NamedAs c.args.packet.now (event_by c.args.packet.now.meta c.args.packet.now.stream id) (Some (event, bare))) c.id_in.ensures
    (subst (NamedAs c.args.packet.now (event_by c.args.packet.now.meta c.args.packet.now.stream c.id_in.result)) c.in-Some.is c.event_named.ensures.found)) in
    let stamped : stamp ≡ timestamp_in w.meta.table told.timestamp = c.timestamp_in-timestamp.ensures.is ∙ ap (λ t. timestamp_in t told.timestamp) c.table.ensures in
    subst (λ (u : PacketModel). HeadToldAs u (event_head u scopes c.args.at) (Ok (record { at = c.in-Ok.read.1; event = event; is_bare = bare; timestamp = stamp })))
    c.packet.view_is (head_told w scopes c.args.plan.now told c.in-Ok.read.1 c.args.at event bare stamp fits answer named stamped)
