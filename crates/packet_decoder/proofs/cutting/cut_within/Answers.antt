use Rattle.std.proofs.Common.{rules, ◌≡◌, ◌∙◌, ◌≤◌, ◌<◌, ◌-◌, ◌++◌, ◌∷◌, [], length, drop, Ok, Err, ap, subst, sym, arith}
use Rattle.std.proofs.lemmas.List.{length-append, length-drop}
use Rattle.packet_decoder.specs.Packets.{packets_in}
use Rattle.packet_decoder.specs.Pieces.{AllLieIn, LiesIn, packet_at, pieces}
use Rattle.packet_decoder.specs.declared.piece.Piece.TheVariants.{Packet, Bad}
use Rattle.packet_decoder.proofs.Cuts.{all_packets, ends_badly, ends_well, few_with_rest, goes_on, lie_push, one_too_many}
use Rattle.packet_decoder.proofs.cutting.cut_within.Goals as goal

pub loop-offset-preserved : goal.loop-offset-preserved
loop-offset-preserved c =
    let left : c.loop-offset.offset < length c.args.file.now = search rules in
    let is : packet_at c.args.meta.now c.loop-offset.offset (drop c.loop-offset.offset c.args.file.now) ≡ Ok c.in-Ok.span = search rules in
    let pushed : c.push.new.self ≡ c.loop-offset.found ++ Packet c.in-Ok.span ∷ [] = search rules in
    let fits : c.in-Ok.span.bytes ≤ length (drop c.loop-offset.offset c.args.file.now) = search rules in
    let some : 1 ≤ c.in-Ok.span.bytes = search rules in
    let at : c.in-Ok.span.offset ≡ c.loop-offset.offset = search rules in
    let lies : LiesIn c.args.file.now c.in-Ok.span = record { bytes = omega (arith, left, fits, at, length-drop c.loop-offset.offset c.args.file.now); content = search rules; start = search rules; some = some } in
    rw pushed (
      sym (goes_on c.args.meta.now c.args.file.now c.loop-offset.offset c.loop-offset.found c.in-Ok.span left c.loop-offset.invariant.1 is) ∙ c.loop-offset.invariant.0,
      omega (arith, c.loop-offset.invariant.1, some, length-append c.loop-offset.found (Packet c.in-Ok.span ∷ [])),
      omega (arith, left, fits, length-drop c.loop-offset.offset c.args.file.now),
      lie_push c.args.file.now c.loop-offset.found (Packet c.in-Ok.span) c.loop-offset.invariant.3 lies,
      all_packets c.loop-offset.found c.in-Ok.span c.loop-offset.invariant.4,
      omega (arith, c.if-len-most.false, length-append c.loop-offset.found (Packet c.in-Ok.span ∷ [])),
    )

pub returns-in-Err-Refused-clause-pieces : goal.returns-in-Err-Refused-clause-pieces
returns-in-Err-Refused-clause-pieces c =
    let left : c.loop-offset.offset < length c.args.file.now = search rules in
    let is : packet_at c.args.meta.now c.loop-offset.offset (drop c.loop-offset.offset c.args.file.now) ≡ Err c.in-Err-Refused.cause = search rules in
    let pushed : c.push-in-Err-Refused.new.self ≡ c.loop-offset.found ++ Bad c.loop-offset.offset c.in-Err-Refused.cause ∷ [] = search rules in
    pushed ∙ sym (ends_badly c.args.meta.now c.args.file.now c.loop-offset.offset c.loop-offset.found c.in-Err-Refused.cause left c.loop-offset.invariant.1 is) ∙ c.loop-offset.invariant.0

pub returns-in-Err-Refused-clause-inside : goal.returns-in-Err-Refused-clause-inside
returns-in-Err-Refused-clause-inside c =
    let pushed : c.push-in-Err-Refused.new.self ≡ c.loop-offset.found ++ Bad c.loop-offset.offset c.in-Err-Refused.cause ∷ [] = search rules in
    subst (AllLieIn c.args.file.now) (sym pushed) (lie_push c.args.file.now c.loop-offset.found (Bad c.loop-offset.offset c.in-Err-Refused.cause) c.loop-offset.invariant.3 tt)

pub returns-clause-pieces : goal.returns-clause-pieces
returns-clause-pieces c =
    let none : length c.args.file.now ≤ c.loop-offset.offset = search rules in
    sym (ends_well c.args.meta.now c.args.file.now c.loop-offset.offset (length c.args.file.now - length c.loop-offset.found) c.loop-offset.found none) ∙ c.loop-offset.invariant.0

pub returns-then-len-most-clause-more : goal.returns-then-len-most-clause-more
returns-then-len-most-clause-more c =
    let left : c.loop-offset.offset < length c.args.file.now = search rules in
    let is : packet_at c.args.meta.now c.loop-offset.offset (drop c.loop-offset.offset c.args.file.now) ≡ Ok c.in-Ok.span = search rules in
    one_too_many c.loop-offset.found _ (pieces c.args.meta.now c.args.file.now) c.in-Ok.span c.args.most c.loop-offset.invariant.4 (search rules)
    (sym (goes_on c.args.meta.now c.args.file.now c.loop-offset.offset c.loop-offset.found c.in-Ok.span left c.loop-offset.invariant.1 is) ∙ c.loop-offset.invariant.0)

pub returns-in-Err-Refused-clause-within : goal.returns-in-Err-Refused-clause-within
returns-in-Err-Refused-clause-within c =
    let left : c.loop-offset.offset < length c.args.file.now = search rules in
    let is : packet_at c.args.meta.now c.loop-offset.offset (drop c.loop-offset.offset c.args.file.now) ≡ Err c.in-Err-Refused.cause = search rules in
    few_with_rest c.loop-offset.found (pieces c.args.meta.now c.args.file.now) c.loop-offset.offset c.in-Err-Refused.cause c.args.most c.loop-offset.invariant.4 c.loop-offset.invariant.5
    (sym c.loop-offset.invariant.0 ∙ ends_badly c.args.meta.now c.args.file.now c.loop-offset.offset c.loop-offset.found c.in-Err-Refused.cause left c.loop-offset.invariant.1 is)

pub returns-clause-within : goal.returns-clause-within
returns-clause-within c =
    let none : length c.args.file.now ≤ c.loop-offset.offset = search rules in
    let all : pieces c.args.meta.now c.args.file.now ≡ c.loop-offset.found = sym c.loop-offset.invariant.0 ∙ ends_well c.args.meta.now c.args.file.now c.loop-offset.offset (length c.args.file.now - length c.loop-offset.found) c.loop-offset.found none in
    omega (arith, ap packets_in all, c.loop-offset.invariant.4, c.loop-offset.invariant.5)
