use Rattle.std.proofs.Common.{◌≡◌, ◌∙◌, ◌<◌, ◌≤◌, ◌^◌, Some, pos, sym, subst, arith, rules}
use Rattle.read_plan.specs.Singles.{single_read}
use Rattle.read_plan.proofs.Singles.{ends_at}
use Rattle.packet_decoder.specs.Events.{PacketModel}
use Rattle.packet_decoder.proofs.Repeats.{passed_one, repeats}
use Rattle.packet_decoder.proofs.repeated.pass_repeated.Goals as goal

pub loop-next-preserved : goal.loop-next-preserved
loop-next-preserved c =
    let w = c.args.packet.now in
    let l = c.loop-next in
    let id = c.in-Some.id in
    let next = c.in-Some-end_of.next in
    let ends = c.in-Some-end_of.ensures.within in
    let within : next ≤ w.end = subst (λ (u : PacketModel). next ≤ u.end) c.packet.view_is ends.1 in
    let there : single_read w.bytes w.end c.args.header l.at ≡ Some (pos id, next) =
    subst (λ (u : PacketModel). single_read u.bytes u.end c.args.header l.at ≡ Some (pos id, next)) c.packet.view_is
    (ends_at id (single_read c.packet.inside.bits.bytes.now c.packet.inside.bits.end c.args.header l.at) next (sym c.end_of.ensures.is ∙ c.in-Some-end_of.is)) in
    let known = repeats w c.args.header c.args.seen c.args.first.clock id c.requires.seen (sym c.repeated_id.ensures ∙ c.in-Some.is) in
    let small : id < 2 ^ 64 = search rules in
    record {
      same = λ scopes. passed_one w scopes c.args.header (record { clock = c.args.first.clock; at = l.at }) id next l.read c.requires.fits known small there ends.0 within l.invariant.few ∙ l.invariant.same scopes;
      few = omega (arith, l.invariant.few, ends.0);
      forward = omega (arith, l.invariant.forward, ends.0);
      small = omega (arith, ends.1, c.packet.invariant.small);
    }
