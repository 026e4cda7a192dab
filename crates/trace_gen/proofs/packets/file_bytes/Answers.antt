use Rattle.std.proofs.Common.{◌≡◌, ◌∙◌, ◌≤◌, ◌*◌, ◌++◌, drop, length, take, sym, ap, ap₂, arith}
use Rattle.trace_gen.specs.Layout.{packet}
use Rattle.trace_gen.proofs.Steps.{packets_next, piece}
use Rattle.trace_gen.proofs.packets.file_bytes.Goals as goal

pub loop-number-preserved : goal.loop-number-preserved
loop-number-preserved c =
    let events = c.args.events.now in
    let i = c.loop-number.number in
    let test = c.loop-number-test.true in
    let inside : i * 100 ≤ length events = omega (arith, test) in
    let from : i * 100 ≡ 100 * i = omega arith in
    c.in_ok-put_packet.ensures
    ∙ (ap₂ (λ b es. b ++ packet i es) c.loop-number.invariant (piece events (i * 100) c.min-to.result inside c.min-to.ensures ∙ ap (λ n. take 100 (drop n events)) from)
    ∙ sym (packets_next i events))
