use Rattle.std.proofs.Common.{◌≡◌, sym, ap, ◌∙◌, take, Some, None}
use Rattle.std.specs.List.{position_or_len}
use Rattle.tsdl_lex.specs.Bytes.{is_other}
use Rattle.tsdl_lex.specs.Numbers.{number_of}
use Rattle.tsdl_lex.proofs.LexemeFronts.{number_first, number_none}
use Rattle.tsdl_lex.proofs.lexeme.number_at.Goals as goal

pub returns-in_err-number : goal.returns-in_err-number
returns-in_err-number c =
    let text = c.args.text.now in
    let none : number_of (take (position_or_len is_other text) text) ≡ None = ap (λ n. number_of (take n text)) (sym c.word_len-len.ensures) ∙ sym c.in_err-number.ensures in
    rw c.from_residual.ensures (number_none text c.requires none)

pub returns : goal.returns
returns c =
    let text = c.args.text.now in
    let found : number_of (take (position_or_len is_other text) text) ≡ Some c.in_ok-number.number = ap (λ n. number_of (take n text)) (sym c.word_len-len.ensures) ∙ sym c.in_ok-number.ensures in
    rw c.word_len-len.ensures (number_first text c.requires c.in_ok-number.number found)
