use Rattle.std.proofs.Common.{◌≡◌, ◌∙◌, Ok, Some, None, sym, subst, ap}
use Rattle.read_plan.specs.Headers.{as_answer, header_read}
use Rattle.packet_decoder.specs.declared.events.EventHead.{EventHead}
use Rattle.packet_decoder.specs.EventReaders.{IsHeadReadAs, PlanFits}
use Rattle.packet_decoder.specs.Events.{PacketModel, event_by, event_head}
use Rattle.packet_decoder.specs.Times.{timestamp_in}
use Rattle.packet_decoder.specs.Values.{id_in}
use Rattle.packet_decoder.proofs.PlannedHeads.{head_planned}
use Rattle.packet_decoder.proofs.events.planned_head.Goals as goal

pub returns-clause-answers : goal.returns-clause-answers
returns-clause-answers c = λ scopes.
    let r = c.packet.inside in
    let w : PacketModel = record { meta = r.meta.now; bytes = r.bits.bytes.now; end = r.bits.end; stream = r.stream; parts = r.parts; cpu = r.cpu } in
    let told = c.in-Ok.read.0 in
    let stamp = c.timestamp_in-timestamp.result in
    let fits = subst (λ (u : PacketModel). PlanFits u.meta.table u.parts.event_header (Some c.args.plan.now)) (sym c.packet.view_is) c.requires.fits in
    let answer : Ok (told, c.in-Ok.read.1) ≡ as_answer (header_read w.bytes w.end c.args.plan.now c.args.at) = sym c.in-Ok.is ∙ c.read.ensures.exact in
    let found : Some (c.in-Some.event, c.in-Some.parts) ≡ event_by w.meta w.stream (id_in told.id) = sym c.in-Some.is ∙ (c.event_by.ensures.found ∙ ap (event_by w.meta w.stream) c.id_in.ensures) in
    let stamped : stamp ≡ timestamp_in w.meta.table told.timestamp = c.timestamp_in-timestamp.ensures.is ∙ ap (λ t. timestamp_in t told.timestamp) c.table.ensures in
    subst (λ (u : PacketModel). (whole : EventHead) × (event_head u scopes c.args.at ≡ Ok whole) × IsHeadReadAs u.meta.table whole (record { header = None; at = c.in-Ok.read.1; event = c.in-Some.event; parts = c.in-Some.parts; timestamp = stamp }))
    c.packet.view_is (head_planned w scopes c.args.plan.now told c.in-Ok.read.1 c.args.at c.in-Some.event c.in-Some.parts stamp fits answer found stamped)
