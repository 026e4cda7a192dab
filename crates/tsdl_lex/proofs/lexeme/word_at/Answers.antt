use Rattle.tsdl_lex.proofs.LexemeFronts.{word_first}
use Rattle.tsdl_lex.proofs.lexeme.word_at.Goals as goal

pub returns : goal.returns
returns c =
    let text = c.args.text.now in
    rw (c.in_ok-word.ensures.value, c.word_len-len.ensures) (word_first text c.requires)
