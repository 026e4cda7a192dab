use Rattle.std.proofs.Common.{◌≡◌, sym, ap, ◌∙◌, drop, true, false, arith}
use Rattle.std.proofs.lemmas.List.{take_rest, length-drop}
use Rattle.tsdl_lex.proofs.CommentFronts.{closes_here, shut, open_still, open_end, closes_two}
use Rattle.tsdl_lex.proofs.comment.closed_len.Goals as goal

pub returns-then-starts_with-clause-within : goal.returns-then-starts_with-clause-within
returns-then-starts_with-clause-within c =
    let body = c.args.body.now in
    let here : closes_here (drop c.loop-at.at body) ≡ true = ap closes_here (sym (take_rest body c.loop-at.at)) ∙ (sym c.starts_with.ensures.value ∙ c.if-starts_with.true) in
    let two = closes_two (drop c.loop-at.at body) here in
    let size = length-drop c.loop-at.at body in
    omega (arith, two, size, c.loop-at.invariant.0)

pub returns-then-starts_with-clause-len : goal.returns-then-starts_with-clause-len
returns-then-starts_with-clause-len c =
    let body = c.args.body.now in
    let here : closes_here (drop c.loop-at.at body) ≡ true = ap closes_here (sym (take_rest body c.loop-at.at)) ∙ (sym c.starts_with.ensures.value ∙ c.if-starts_with.true) in
    c.loop-at.invariant.1 ∙ shut body c.loop-at.at c.loop-at-test.true here

pub loop-at-preserved : goal.loop-at-preserved
loop-at-preserved c =
    let body = c.args.body.now in
    let here : closes_here (drop c.loop-at.at body) ≡ false = ap closes_here (sym (take_rest body c.loop-at.at)) ∙ (sym c.starts_with.ensures.value ∙ c.if-starts_with.false) in
    (omega (arith, c.loop-at-test.true), c.loop-at.invariant.1 ∙ open_still body c.loop-at.at c.loop-at-test.true here)

pub returns-clause-len : goal.returns-clause-len
returns-clause-len c = c.loop-at.invariant.1 ∙ open_end c.args.body.now c.loop-at.at c.loop-at-test.false
