use Rattle.std.proofs.Common.{◌∙◌, refl, to_z-of_z}
use Rattle.trace_types.proofs.Decimals.{read_signed_is, read_fits, not_read_signed, not_plain_signed, not_utf8_signed, refused, given}
use Rattle.trace_types.proofs.number.read_signed.Goals as goal

pub returns-in_err-ok-clause-none : goal.returns-in_err-ok-clause-none
returns-in_err-ok-clause-none c = rw c.from_residual.ensures (not_utf8_signed c.args.text.now (refused _ _ _ c.from_utf8.result c.from_utf8.ensures.cases c.in_err-ok.ensures.value))

pub returns-in_err-number-clause-none : goal.returns-in_err-number-clause-none
returns-in_err-number-clause-none c =
    let text = given _ _ c.from_utf8.result c.in_ok-ok.field-0 c.from_utf8.ensures.cases c.in_ok-ok.ensures.value in
    rw c.from_residual-in_err-number.ensures (λ n small e. not_read_signed _ c.parse.result c.parse.ensures.value.0 c.in_err-number.ensures.value n small (text.0 ∙ e))

pub returns-then-begins_plainly_signed-clause-found : goal.returns-then-begins_plainly_signed-clause-found
returns-then-begins_plainly_signed-clause-found c =
    let text = given _ _ c.from_utf8.result c.in_ok-ok.field-0 c.from_utf8.ensures.cases c.in_ok-ok.ensures.value in
    rw (to_z-of_z (read_fits c.in_ok-ok.field-0.now c.in_ok-number.number c.parse.result c.parse.ensures.value.0 c.in_ok-number.ensures.value))
    (read_signed_is _ _ c.in_ok-number.number c.parse.result c.parse.ensures.value.0 c.in_ok-number.ensures.value text.0 (c.if-begins_plainly_signed.ensures.0 refl))

pub returns-else-begins_plainly_signed-clause-none : goal.returns-else-begins_plainly_signed-clause-none
returns-else-begins_plainly_signed-clause-none c = not_plain_signed _ _ c.begins_plainly_signed.ensures c.if-begins_plainly_signed.false
