use Rattle.std.proofs.Common.{rules, ◌≡◌}
use Rattle.read_plan.specs.Contexts.{context_numbers}
use Rattle.packet_decoder.proofs.ToldHeads.{head_kept}
use Rattle.packet_decoder.proofs.packet_head.context_told.Goals as goal

pub returns-clause-told : goal.returns-clause-told
returns-clause-told c =
    let a = c.args in
    let h = c.in_ok-head.head in
    let told : c.context_numbers-numbers.result ≡ context_numbers a.meta.now.table h.scopes.packet_context = search rules in
    let kept : c.take.result ≡ h.scopes.packet_header = search rules in
    head_kept a.meta.now a.rest.now a.judged.header a.judged.at a.judged.stream a.judged.parts h c.context_numbers-numbers.result c.take.result c.in_ok-head.ensures.answers kept told
