use Rattle.std.proofs.Common.{sym, ap, ◌∙◌, arith}
use Rattle.tsdl_lex.specs.Marks.{single_mark}
use Rattle.tsdl_lex.proofs.MarkFronts.{declare, ellipsis, single, nowhere, empty_nowhere}
use Rattle.tsdl_lex.proofs.mark.mark_at.Goals as goal

pub returns-then-starts_with-clause-found : goal.returns-then-starts_with-clause-found
returns-then-starts_with-clause-found c = declare c.args.text.now (sym c.starts_with.ensures.value ∙ c.if-starts_with.true)

pub returns-then-starts_with-2-clause-found : goal.returns-then-starts_with-2-clause-found
returns-then-starts_with-2-clause-found c = ellipsis c.args.text.now (sym c.starts_with-2.ensures.value ∙ c.if-starts_with-2.true)

pub returns-in_err-first-clause-none : goal.returns-in_err-first-clause-none
returns-in_err-first-clause-none c = let e = c.in_err-first.ensures.item in rw c.from_residual.ensures (empty_nowhere c.args.text.now (omega (arith, e.3)))

pub returns-in_err-single_mark-clause-none : goal.returns-in_err-single_mark-clause-none
returns-in_err-single_mark-clause-none c =
    let text = c.args.text.now in
    let no_declare = sym c.starts_with.ensures.value ∙ c.if-starts_with.false in
    let no_ellipsis = sym c.starts_with-2.ensures.value ∙ c.if-starts_with-2.false in
    let none = ap single_mark (sym (c.in_ok-first.ensures.item.3.1 0)) ∙ sym c.in_err-single_mark.ensures in
    rw c.from_residual-in_err-single_mark.ensures (nowhere text no_declare no_ellipsis none)

pub returns-clause-found : goal.returns-clause-found
returns-clause-found c =
    let text = c.args.text.now in
    let no_declare = sym c.starts_with.ensures.value ∙ c.if-starts_with.false in
    let no_ellipsis = sym c.starts_with-2.ensures.value ∙ c.if-starts_with-2.false in
    let is = ap single_mark (sym (c.in_ok-first.ensures.item.3.1 0)) ∙ sym c.in_ok-single_mark.ensures in
    single text no_declare no_ellipsis c.in_ok-single_mark.field-0 is c.in_ok-first.ensures.item.3.0
