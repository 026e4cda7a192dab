use Rattle.std.proofs.Common.{rules, arith}
use Rattle.std.proofs.lemmas.Grind.{common_steps}
use Rattle.tsdl_parser.specs.Reading.{attr, attrs}
use Rattle.tsdl_parser.specs.Parsers.{items_from}
use Rattle.tsdl_parser.proofs.Turns.{one_more, no_more}
use Rattle.tsdl_parser.proofs.values.attrs.Goals as goal

pub returns-in_err-expect : goal.returns-in_err-expect
unfolding attrs
returns-in_err-expect c = first_of (search rules, grind (arith, common_steps))

pub loop-turn-init : goal.loop-turn-init
unfolding attrs
loop-turn-init c = first_of (search rules, grind (arith, common_steps))

pub returns-then-eat : goal.returns-then-eat
unfolding items_from
returns-then-eat c =
    let e = one_more (λ n. items_from attr n c.loop-turn.found c.loop-turn.tokens) _ c.loop-turn._turn c.loop-turn-test.true c.loop-turn.invariant in
    first_of (search rules, grind (arith, common_steps))

pub returns-in_err-attr : goal.returns-in_err-attr
unfolding items_from
returns-in_err-attr c =
    let e = one_more (λ n. items_from attr n c.loop-turn.found c.loop-turn.tokens) _ c.loop-turn._turn c.loop-turn-test.true c.loop-turn.invariant in
    first_of (search rules, grind (arith, common_steps))

pub loop-turn-preserved : goal.loop-turn-preserved
unfolding items_from
loop-turn-preserved c =
    let e = one_more (λ n. items_from attr n c.loop-turn.found c.loop-turn.tokens) _ c.loop-turn._turn c.loop-turn-test.true c.loop-turn.invariant in
    first_of (search rules, grind (arith, common_steps))

pub returns : goal.returns
unfolding items_from
returns c =
    let e = no_more (λ n. items_from attr n c.loop-turn.found c.loop-turn.tokens) _ c.loop-turn._turn c.loop-turn-test.false c.loop-turn.invariant in
    first_of (search rules, grind (arith, common_steps))
