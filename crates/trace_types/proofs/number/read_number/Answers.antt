use Rattle.std.proofs.Common.{◌∙◌, refl}
use Rattle.trace_types.proofs.Decimals.{read_is, not_read, not_plain, not_utf8, refused, given}
use Rattle.trace_types.proofs.number.read_number.Goals as goal

pub returns-in_err-ok-clause-none : goal.returns-in_err-ok-clause-none
returns-in_err-ok-clause-none c = rw c.from_residual.ensures (not_utf8 c.args.text.now (refused _ _ _ c.from_utf8.result c.from_utf8.ensures.cases c.in_err-ok.ensures.value))

pub returns-in_err-number-clause-none : goal.returns-in_err-number-clause-none
returns-in_err-number-clause-none c =
    let text = given _ _ c.from_utf8.result c.in_ok-ok.field-0 c.from_utf8.ensures.cases c.in_ok-ok.ensures.value in
    rw c.from_residual-in_err-number.ensures (λ n small e. not_read _ c.parse.result c.parse.ensures.value.0 c.in_err-number.ensures.value n small (text.0 ∙ e))

pub returns-then-begins_plainly-clause-found : goal.returns-then-begins_plainly-clause-found
returns-then-begins_plainly-clause-found c =
    let text = given _ _ c.from_utf8.result c.in_ok-ok.field-0 c.from_utf8.ensures.cases c.in_ok-ok.ensures.value in
    read_is _ _ c.in_ok-number.number c.parse.result c.parse.ensures.value.0 c.in_ok-number.ensures.value text.0 (c.if-begins_plainly.ensures.0 refl)

pub returns-else-begins_plainly-clause-none : goal.returns-else-begins_plainly-clause-none
returns-else-begins_plainly-clause-none c = not_plain _ _ c.begins_plainly.ensures c.if-begins_plainly.false
