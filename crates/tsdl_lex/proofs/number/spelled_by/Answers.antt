use Rattle.std.proofs.Common.{sym, ◌∙◌}
use Rattle.tsdl_lex.proofs.NumberFronts.{digits_utf8, spelled, given, refused}
use Rattle.tsdl_lex.proofs.number.spelled_by.Goals as goal

pub returns-in_err-ok : goal.returns-in_err-ok
returns-in_err-ok c = absurd (refused _ _ _ c.from_utf8.result c.from_utf8.ensures.cases c.in_err-ok.ensures.value (digits_utf8 c.args.base c.requires.base.1 c.args.digits.now c.requires.digits))

pub returns : goal.returns
returns c =
    let same = given _ _ c.from_utf8.result c.in_ok-ok.field-0 c.from_utf8.ensures.cases c.in_ok-ok.ensures.value in
    c.ok-2.ensures.value ∙ spelled c.args.base c.requires.base.1 c.args.digits.now c.in_ok-ok.field-0.now c.requires.digits (sym same.0) c.from_str_radix.result c.from_str_radix.ensures.value
