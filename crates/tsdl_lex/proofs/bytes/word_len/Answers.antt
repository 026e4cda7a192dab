use Rattle.std.proofs.Common.{ap, ◌∙◌, length}
use Rattle.std.specs.Option.{unwrap_or}
use Rattle.tsdl_lex.specs.Bytes.{is_other}
use Rattle.tsdl_lex.proofs.Fronts.{first_or_end}
use Rattle.tsdl_lex.proofs.bytes.word_len.Goals as goal

pub returns : goal.returns
returns c = c.unwrap_or.ensures ∙ ap (λ o. unwrap_or o (length c.args.text.now)) c.first_other.ensures ∙ first_or_end is_other c.args.text.now
