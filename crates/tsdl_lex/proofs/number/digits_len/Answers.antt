use Rattle.std.proofs.Common.{ap, ◌∙◌, length, not}
use Rattle.std.specs.Option.{unwrap_or}
use Rattle.std.specs.Char.{is_digit}
use Rattle.tsdl_lex.proofs.Fronts.{first_or_end}
use Rattle.tsdl_lex.proofs.number.digits_len.Goals as goal

pub returns : goal.returns
returns c = c.unwrap_or.ensures ∙ ap (λ o. unwrap_or o (length c.args.text.now)) c.first_other.ensures ∙ first_or_end (λ d. not (is_digit d c.args.base)) c.args.text.now
