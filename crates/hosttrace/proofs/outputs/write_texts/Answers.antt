use Rattle.std.proofs.Common.{ℕ, ◌<◌, length, rules, Vec, Global}
use Rattle.hosttrace.proofs.Written.{front_after}
use Rattle.hosttrace.proofs.EventLines.{texts_around}
use Rattle.hosttrace.proofs.outputs.write_texts.Goals as goal

pub returns-in_err-write_text-clause-front : goal.returns-in_err-write_text-clause-front
returns-in_err-write_text-clause-front g c =
    let inside : c.loop-text.text-index < length c.args.texts.now = search rules in
    let parts = texts_around (λ (text : Vec ℕ Global). text.items) c.args.texts.now c.loop-text.text-index c.text-item.result c.deref.result.now inside c.text-item.is c.deref.ensures.value in
    let front = front_after _ _ _ _ _ _ _ parts c.loop-text.invariant.written c.in_err-write_text.ensures.front in
    search rules
