use Rattle.std.proofs.Common.{subst, ◌∙◌, rules}
use Rattle.std.proofs.lemmas.List.{take_rest}
use Rattle.tsdl_lex.specs.Longest.{IsLongest, IsNowhere}
use Rattle.tsdl_lex.specs.Marks.{comment_of}
use Rattle.tsdl_lex.proofs.LexemeFronts.{comment_first, comment_none, space_first, mark_first, mark_none}
use Rattle.tsdl_lex.proofs.lexeme.plain_at.Goals as goal

pub returns-in_err-comment_len : goal.returns-in_err-comment_len
returns-in_err-comment_len c =
    let text = c.args.text.now in
    let first = c.requires.text.1 ∙ c.if-first-eq47.true in
    rw c.from_residual.ensures (comment_none text c.requires.text.0 first (subst (IsNowhere comment_of) (take_rest text 1) c.in_err-comment_len.ensures))

pub returns-then-first-eq47 : goal.returns-then-first-eq47
returns-then-first-eq47 c =
    let text = c.args.text.now in
    let first = c.requires.text.1 ∙ c.if-first-eq47.true in
    let n = c.in_ok-comment_len.field-0 in
    comment_first text n c.requires.text.0 first (subst (λ l. IsLongest comment_of l n (tt {0})) (take_rest text 1) c.in_ok-comment_len.ensures)

pub returns-then-is_space : goal.returns-then-is_space
returns-then-is_space c = space_first c.args.first c.requires.plain.0 (search rules) c.requires.plain.1 (search rules) (search rules) c.args.text.now c.requires.text.0 c.requires.text.1

pub returns-in_err-mark : goal.returns-in_err-mark
returns-in_err-mark c = rw c.from_residual-in_err-mark.ensures (mark_none c.args.first c.requires.plain.0 (search rules) c.requires.plain.1 (search rules) (search rules) c.args.text.now c.requires.text.0 c.requires.text.1 c.in_err-mark.ensures.none)

pub returns : goal.returns
returns c = mark_first c.args.first c.requires.plain.0 (search rules) c.requires.plain.1 (search rules) (search rules) c.args.text.now c.requires.text.0 c.requires.text.1 c.in_ok-mark.len c.in_ok-mark.mark c.in_ok-mark.ensures.found
