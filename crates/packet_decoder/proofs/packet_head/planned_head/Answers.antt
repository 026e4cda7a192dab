use Rattle.std.proofs.Common.{◌≡◌, ◌∙◌, ◌*◌, length, sym, ap}
use Rattle.read_plan.specs.Contexts.{as_numbers, context_read}
use Rattle.packet_decoder.proofs.ToldHeads.{head_fails, head_told}
use Rattle.packet_decoder.proofs.packet_head.planned_head.Goals as goal

pub returns-in_default-clause-told : goal.returns-in_default-clause-told
returns-in_default-clause-told c =
    let a = c.args in
    let exact : c.read.result ≡ as_numbers (context_read a.rest.now (8 * length a.rest.now) a.plan.now a.judged.at) =
    c.read.ensures.exact ∙ (ap (λ b. as_numbers (context_read b c.all_bits.result.end a.plan.now a.judged.at)) c.all_bits.ensures.bytes ∙ ap (λ e. as_numbers (context_read a.rest.now e a.plan.now a.judged.at)) c.all_bits.ensures.end) in
    head_fails a.meta.now a.rest.now a.judged.header a.judged.at a.judged.stream a.judged.parts a.plan.now c.in_default.field-0 c.requires.fits (sym c.in_default.is ∙ exact)

pub returns-clause-told : goal.returns-clause-told
returns-clause-told c =
    let a = c.args in
    let exact : c.read.result ≡ as_numbers (context_read a.rest.now (8 * length a.rest.now) a.plan.now a.judged.at) =
    c.read.ensures.exact ∙ (ap (λ b. as_numbers (context_read b c.all_bits.result.end a.plan.now a.judged.at)) c.all_bits.ensures.bytes ∙ ap (λ e. as_numbers (context_read a.rest.now e a.plan.now a.judged.at)) c.all_bits.ensures.end) in
    head_told a.meta.now a.rest.now a.judged.header a.judged.at a.judged.stream a.judged.parts a.plan.now c.in-Ok.numbers c.in-Ok.start c.requires.fits (sym c.in-Ok.is ∙ exact)
