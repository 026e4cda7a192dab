use Rattle.std.proofs.Common.{rules, arith}
use Rattle.std.proofs.lemmas.Grind.{common_steps}
use Rattle.tsdl_parser.specs.Reading.{labels, labels_from}
use Rattle.tsdl_parser.proofs.Turns.{one_more, no_more}
use Rattle.tsdl_parser.proofs.enumerations.labels.Goals as goal

pub returns-in_err-expect : goal.returns-in_err-expect
unfolding labels
returns-in_err-expect c = first_of (search rules, grind (arith, common_steps))

pub loop-turn-init : goal.loop-turn-init
unfolding labels
loop-turn-init c = first_of (search rules, grind (arith, common_steps))

pub returns-in_err-label : goal.returns-in_err-label
unfolding labels_from
returns-in_err-label c =
    let e = one_more (λ n. labels_from n c.loop-turn.found c.loop-turn.tokens) _ c.loop-turn._turn c.loop-turn-test.true c.loop-turn.invariant in
    first_of (search rules, grind (arith, common_steps))

pub returns-then-eat : goal.returns-then-eat
unfolding labels_from
returns-then-eat c =
    let e = one_more (λ n. labels_from n c.loop-turn.found c.loop-turn.tokens) _ c.loop-turn._turn c.loop-turn-test.true c.loop-turn.invariant in
    first_of (search rules, grind (arith, common_steps))

pub returns-then-not-more : goal.returns-then-not-more
unfolding labels_from
returns-then-not-more c =
    let e = one_more (λ n. labels_from n c.loop-turn.found c.loop-turn.tokens) _ c.loop-turn._turn c.loop-turn-test.true c.loop-turn.invariant in
    first_of (search rules, grind (arith, common_steps))

pub loop-turn-preserved : goal.loop-turn-preserved
unfolding labels_from
loop-turn-preserved c =
    let e = one_more (λ n. labels_from n c.loop-turn.found c.loop-turn.tokens) _ c.loop-turn._turn c.loop-turn-test.true c.loop-turn.invariant in
    first_of (search rules, grind (arith, common_steps))

pub returns : goal.returns
unfolding labels_from
returns c =
    let e = no_more (λ n. labels_from n c.loop-turn.found c.loop-turn.tokens) _ c.loop-turn._turn c.loop-turn-test.false c.loop-turn.invariant in
    first_of (search rules, grind (arith, common_steps))
