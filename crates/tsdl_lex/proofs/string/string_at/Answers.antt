use Rattle.std.proofs.Common.{◌≡◌, ◌<◌, ◌+◌, sym, ap, ◌∙◌, length, get_or, drop, Some, [], arith, rules}
use Rattle.std.proofs.lemmas.List.{drop-drop, get_or-drop, length-drop}
use Rattle.tsdl_lex.specs.Strings.{content}
use Rattle.tsdl_lex.proofs.StringFronts.{at_quote, at_end_of, closing, nothing}
use Rattle.tsdl_lex.proofs.string.string_at.Goals as goal

pub returns-then-text-at-eq34-clause-content : goal.returns-then-text-at-eq34-clause-content
returns-then-text-at-eq34-clause-content c =
    let text = c.args.text.now in
    let at = c.loop-at.at in
    let plus_none : at + 0 ≡ at = omega arith in
    let size = length-drop at text in
    let some : 0 < length (drop at text) = omega (arith, size, c.loop-at-test.true) in
    let quote : get_or (drop at text) 0 0 ≡ 34 = get_or-drop at text 0 0 ∙ ap (λ k. get_or text k 0) plus_none ∙ c.if-text-at-eq34.true in
    let value = c.loop-at.value.items in
    let read : content 0 text ≡ Some (value, drop (at + 1) text) = closing value (drop (at + 1) text) (content 0 text) (content 0 (drop at text)) c.loop-at.invariant.1 (at_quote (drop at text) some quote ∙ ap (λ l. Some ([], l)) (drop-drop 1 at text)) in
    let same : c.in_ok-from_bytes.field-0 ≡ value = search rules in
    read ∙ ap (λ v. Some (v, drop (at + 1) text)) (sym same)

pub returns-clause-content : goal.returns-clause-content
returns-clause-content c = nothing _ _ _ c.loop-at.invariant.1 (at_end_of c.args.text.now c.loop-at.at c.loop-at-test.false)
