use Rattle.std.proofs.Common.{◌≡◌, ◌≤◌, sym, ap, subst, ◌∙◌, refl, length, drop, Some, None, rules}
use Rattle.std.proofs.lemmas.List.{take_rest}
use Rattle.tsdl_lex.specs.Strings.{escape}
use Rattle.tsdl_lex.proofs.StringFronts.{at_line_feed, at_escape, at_no_escape, at_plain}
use Rattle.tsdl_lex.proofs.string.byte_at.Goals as goal

pub returns-in_err-byte-in-92-clause-content : goal.returns-in_err-byte-in-92-clause-content
returns-in_err-byte-in-92-clause-content c =
    let text = c.args.text.now in
    let none : escape (drop 1 text) ≡ None = ap escape (sym (take_rest text 1)) ∙ sym c.in_err-byte-in-92.ensures.value in
    rw c.from_residual.ensures (at_no_escape text c.requires.some c.in-92.is none)

pub returns-in-10-clause-content : goal.returns-in-10-clause-content
returns-in-10-clause-content c = at_line_feed c.args.text.now c.requires.some c.in-10.is

pub returns-in_ok-byte-in-92-clause-content : goal.returns-in_ok-byte-in-92-clause-content
returns-in_ok-byte-in-92-clause-content c =
    let text = c.args.text.now in
    let found : escape (drop 1 text) ≡ Some (c.in_ok-byte-in-92.byte, c.in_ok-byte-in-92.len) = ap escape (sym (take_rest text 1)) ∙ sym c.in_ok-byte-in-92.ensures.value in
    let within : c.in_ok-byte-in-92.len ≤ length (drop 1 text) = subst (λ l. c.in_ok-byte-in-92.len ≤ length l) (take_rest text 1) c.in_ok-byte-in-92.ensures.within in
    at_escape text c.requires.some c.in-92.is c.in_ok-byte-in-92.byte c.in_ok-byte-in-92.len found within

pub returns-in_default-clause-content : goal.returns-in_default-clause-content
returns-in_default-clause-content c = at_plain c.args.text.now c.requires.some _ refl c.requires.goes_on (search rules) (search rules)
