use Rattle.std.proofs.Common.{◌≡◌, ◌+◌, sym, ap, subst, ◌∙◌, length, take, drop, ◌-◌, ◌≤◌, not, Some, None, arith}
use Rattle.std.proofs.lemmas.List.{take_rest, length-drop}
use Rattle.std.specs.List.{position_or_len}
use Rattle.tsdl_lex.specs.Longest.{IsLongest, IsNowhere}
use Rattle.tsdl_lex.specs.Marks.{after_close, is_in_line, comment_of}
use Rattle.tsdl_lex.proofs.Fronts.{by_first}
use Rattle.tsdl_lex.proofs.CommentFronts.{block_comment, line_comment, no_block, no_text}
use Rattle.tsdl_lex.proofs.comment.comment_len.Goals as goal

pub returns-in_err-first : goal.returns-in_err-first
returns-in_err-first c = rw c.from_residual.ensures (no_text c.args.text.now (omega (arith, c.in_err-first.ensures.item.3)))

pub returns-in_err-closed_len-in-42 : goal.returns-in_err-closed_len-in-42
returns-in_err-closed_len-in-42 c =
    let text = c.args.text.now in
    let is = by_first text 42 c.in_ok-first.ensures.item.3.0 (sym (c.in_ok-first.ensures.item.3.1 0) ∙ c.in-42.is) in
    let none : after_close (drop 1 text) ≡ None = ap after_close (sym (take_rest text 1)) ∙ c.in_err-closed_len-in-42.ensures.len in
    rw c.from_residual-in_err-closed_len-in-42.ensures (subst (IsNowhere comment_of) (sym is) (no_block (drop 1 text) none))

pub returns-in_ok-closed_len-in-42 : goal.returns-in_ok-closed_len-in-42
returns-in_ok-closed_len-in-42 c =
    let text = c.args.text.now in
    let n = c.in_ok-closed_len-in-42.field-0 in
    let is = by_first text 42 c.in_ok-first.ensures.item.3.0 (sym (c.in_ok-first.ensures.item.3.1 0) ∙ c.in-42.is) in
    let rest : take (length text - 1) (drop 1 text) ≡ drop 1 text = take_rest text 1 in
    let closed : after_close (drop 1 text) ≡ Some (drop n (drop 1 text)) = ap after_close (sym rest) ∙ (c.in_ok-closed_len-in-42.ensures.len ∙ ap (λ l. Some (drop n l)) rest) in
    let within : n ≤ length (drop 1 text) = subst (λ l. n ≤ length l) rest c.in_ok-closed_len-in-42.ensures.within in
    let size = length-drop n (drop 1 text) in
    subst (λ t. IsLongest comment_of t (1 + n) (tt {0})) (sym is) (block_comment (drop 1 text) (drop n (drop 1 text)) n closed (omega (arith, within, size)))

pub returns-in-47 : goal.returns-in-47
returns-in-47 c =
    let text = c.args.text.now in
    let is = by_first text 47 c.in_ok-first.ensures.item.3.0 (sym (c.in_ok-first.ensures.item.3.1 0) ∙ c.in-47.is) in
    let len = c.line_len.ensures.len ∙ ap (position_or_len (λ b. not (is_in_line b))) (take_rest text 1) in
    subst (λ n. IsLongest comment_of text (1 + n) (tt {0})) (sym len) (subst (λ t. IsLongest comment_of t (1 + position_or_len (λ b. not (is_in_line b)) (drop 1 text)) (tt {0})) (sym is) (line_comment (drop 1 text)))
