use Rattle.std.proofs.Common.{rules, ◌≡◌, true, ap}
use Rattle.ctf_fields.specs.Fields.{Scopes}
use Rattle.packet_decoder.specs.declared.packet_head.PacketHead.{PacketHead}
use Rattle.packet_decoder.proofs.LoneContexts.{opened_told}
use Rattle.packet_decoder.proofs.packet_head.open_packet_head.Goals as goal

pub returns : goal.returns
returns c = record {
  opened = λ span.
      let told = c.in_ok-told.told in
      let lone : c.args.known.lone ≡ true = search rules in
      let with_rest : Scopes → PacketHead = λ s. record {
        scopes = record { packet_header = told.header; packet_context = s.packet_context; event_header = s.event_header; stream_context = s.stream_context; event_context = s.event_context; event_fields = s.event_fields };
        start = told.start;
        stream = told.stream;
        parts = told.parts;
      } in
      opened_told c.args.meta.now c.args.rest.now span told (with_rest c.none-scopes.result) (c.requires.lone lone) c.in_ok-told.ensures.told (ap with_rest c.none-scopes.ensures);
}
