use Rattle.std.proofs.Common.{sym, ap, subst, ◌∙◌, not, take, arith}
use Rattle.std.specs.Char.{is_digit}
use Rattle.std.specs.Str.Parse.{AllDigits}
use Rattle.tsdl_lex.proofs.Fronts.{len_within}
use Rattle.tsdl_lex.proofs.NumberFronts.{digits_are}
use Rattle.tsdl_lex.proofs.number.in_base.Goals as goal

pub split_at-requires : goal.split_at-requires
split_at-requires c = let within = len_within (λ d. not (is_digit d c.args.base)) c.args.text.now in omega (arith, within, c.digits_len.ensures)

pub spelled_by-requires-clause-digits : goal.spelled_by-requires-clause-digits
spelled_by-requires-clause-digits c =
    let text = c.args.text.now in
    subst (AllDigits c.args.base) (sym (c.split_at.ensures.front ∙ ap (λ n. take n text) c.digits_len.ensures)) (digits_are c.args.base text)
