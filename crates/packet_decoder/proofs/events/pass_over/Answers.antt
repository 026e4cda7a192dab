use Rattle.std.proofs.Common.{◌≡◌, refl, ap, arith}
use Rattle.packet_decoder.specs.Events.{from_of}
use Rattle.packet_decoder.specs.PacketHeads.{read_scope}
use Rattle.packet_decoder.proofs.PassedOver.{passed, passes_scope, read_from}
use Rattle.packet_decoder.proofs.events.pass_over.Goals as goal

pub returns-in-Ok-clause-answers : goal.returns-in-Ok-clause-answers
returns-in-Ok-clause-answers c =
    let end : c.packet.inside.bits.end ≡ c.args.packet.now.end = ap (λ p. p.end) c.packet.view_is in
    let reads = passes_scope c.args.packet.now c.args.scopes.now c.args.ty c.args.at c.args.bits c.requires.skip c.requires.whole in
    let got = passed (read_scope (from_of c.args.packet.now c.args.scopes.now) c.args.ty c.args.at) c.args.at c.args.bits c.args.packet.now.end c.in-Ok.end reads c.in-Ok.ensures.passed.0 (λ some. omega (arith, end, c.in-Ok.ensures.passed.1 some)) in
    (got.0, got.1, (c.requires.whole, c.requires.at, (c.args.bits, refl), read_from c.args.packet.now c.args.scopes.now c.args.ty c.args.at c.in-Ok.end got.0 got.1))
