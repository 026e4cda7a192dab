use Rattle.std.proofs.Common.{◌≡◌, ◌≤◌, sym, ap, subst, ◌∙◌, length, drop, Some}
use Rattle.std.proofs.lemmas.List.{take_rest}
use Rattle.tsdl_lex.specs.Strings.{content}
use Rattle.tsdl_lex.proofs.Fronts.{at_none, at_some, if_some}
use Rattle.tsdl_lex.proofs.StringFronts.{longest_string, no_string}
use Rattle.tsdl_lex.proofs.LexemeFronts.{string_first, string_none}
use Rattle.tsdl_lex.proofs.lexeme.string_lexeme_at.Goals as goal

pub returns-in_default : goal.returns-in_default
returns-in_default c =
    let text = c.args.text.now in
    let none = at_none _ _ c.in_ok-value.field-0 c.in_default.is c.in_ok-value.ensures.content in
    string_none text c.requires.some c.requires.quote (no_string (drop 1 text) (ap (content 0) (sym (take_rest text 1)) ∙ none))

pub returns : goal.returns
returns c =
    let text = c.args.text.now in
    let n = c.in-Some.len in
    let v = c.in-Some.value in
    let within = if_some _ c.in_ok-value.field-0 (v, n) c.in-Some.is c.in_ok-value.ensures.within in
    let read = at_some _ _ c.in_ok-value.field-0 (v, n) c.in-Some.is c.in_ok-value.ensures.content in
    let here : n ≤ length (drop 1 text) = subst (λ l. n ≤ length l) (take_rest text 1) within in
    let same : content 0 (drop 1 text) ≡ Some (v, drop n (drop 1 text)) = subst (λ l. content 0 l ≡ Some (v, drop n l)) (take_rest text 1) read in
    string_first text n v c.requires.some c.requires.quote (longest_string (drop 1 text) n v here same)
