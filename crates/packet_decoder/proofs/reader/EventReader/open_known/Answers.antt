use Rattle.std.proofs.Common.{◌≡◌, ◌∙◌, Err, sym, ap, subst}
use Rattle.std.proofs.lemmas.Result.{err_from_is_err_and}
use Rattle.packet_decoder.specs.ToldHeads.{HeadOpenedAs}
use Rattle.packet_decoder.specs.declared.failure.Failure.TheVariants as failure
use Rattle.packet_decoder.proofs.LoneContexts.{refuses}
use Rattle.packet_decoder.proofs.reader.EventReader.open_known.Goals as goal

pub returns-in_err-packet_head-clause-refused : goal.returns-in_err-packet_head-clause-refused
returns-in_err-packet_head-clause-refused c = λ cause e.
    let failed = c.in_err-packet_head.field-0.0 in
    let out = err_from_is_err_and c.from_residual.result c.from_residual.ensures.1 in
    let same : Err (failure.Refused cause) ≡ Err failed = sym e ∙ (out.1 ∙ ap Err out.2) in
    refuses c.args.meta.now c.args.file.now c.args.span.now cause failed same
    (subst (λ rest. HeadOpenedAs c.args.meta.now rest c.args.span.now (Err failed)) c.bytes_from-rest.ensures (c.in_err-packet_head.ensures.opened c.args.span.now))
