use Rattle.std.proofs.Common.{◌≡◌, ◌<◌, ◌∷◌, [], ◌++◌, sym, ap, ◌∙◌, subst, refl, length, None, arith, rules}
use Rattle.meta_packets.specs.Packets.{IsPacket, Leads, cause_of, content_of}
use Rattle.meta_packets.proofs.Leading.{leads_more, joined_more}
use Rattle.meta_packets.proofs.joining.join_packets.Goals as goal

pub cut-requires : goal.cut-requires
cut-requires c =
    let sound : cause_of c.args.order c.uuid_of-uuid.result.now c.loop-uuid.rest.now ≡ None = search rules in
    (c.uuid_of-uuid.result.now, sound)

pub loop-uuid-preserved : goal.loop-uuid-preserved
loop-uuid-preserved c =
    let before = c.loop-uuid.invariant in
    let uuid = c.uuid_of-uuid.result.now in
    let rest = c.loop-uuid.rest.now in
    let content = content_of c.args.order rest in
    let sound : cause_of c.args.order uuid rest ≡ None = search rules in
    let some : 0 < length rest = search rules in
    let packet : IsPacket c.args.order uuid rest content = record { some = some; sound = sound; text = refl } in
    let leads = leads_more c.args.order uuid c.args.bytes.now before.1.0 rest content before.1.1 packet in (
      before.0,
      (
        before.1.0 ++ content ∷ [],
        subst (λ r. Leads c.args.order uuid c.args.bytes.now (before.1.0 ++ content ∷ []) r) (sym c.cut.ensures.behind) leads,
        c.in_ok-extend_from_slice.ensures.items ∙ (ap (λ l. c.loop-uuid.text.items ++ l) c.cut.ensures.content ∙ (ap (λ l. l ++ content) before.1.2 ∙ sym (joined_more before.1.0 content))),
      ),
      omega (arith, c.cut.ensures.shorter, before.2),
    )
