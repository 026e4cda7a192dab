use Rattle.std.proofs.Common.{ap, ◌∙◌, length, not}
use Rattle.std.specs.Option.{unwrap_or}
use Rattle.tsdl_lex.specs.Marks.{is_in_line}
use Rattle.tsdl_lex.proofs.Fronts.{first_or_end}
use Rattle.tsdl_lex.proofs.comment.line_len.Goals as goal

pub returns-clause-len : goal.returns-clause-len
returns-clause-len c = c.unwrap_or.ensures ∙ ap (λ o. unwrap_or o (length c.args.body.now)) c.line_end.ensures ∙ first_or_end (λ d. not (is_in_line d)) c.args.body.now
