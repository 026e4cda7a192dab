use Rattle.std.proofs.Common.{rules, arith}
use Rattle.std.proofs.lemmas.Grind.{common_steps}
use Rattle.tsdl_parser.specs.Reading.{path, path_from}
use Rattle.tsdl_parser.proofs.Turns.{one_more, no_more}
use Rattle.tsdl_parser.proofs.values.path.Goals as goal

pub returns-in_err-word : goal.returns-in_err-word
unfolding path
returns-in_err-word c = first_of (search rules, grind (arith, common_steps))

pub loop-turn-init : goal.loop-turn-init
unfolding path
loop-turn-init c = first_of (search rules, grind (arith, common_steps))

pub returns-in_err-word-2 : goal.returns-in_err-word-2
unfolding path_from
returns-in_err-word-2 c =
    let e = one_more (λ n. path_from n c.loop-turn.found c.loop-turn.tokens) _ c.loop-turn._turn c.loop-turn-test.true c.loop-turn.invariant in
    first_of (search rules, grind (arith, common_steps))

pub returns-then-not-eat : goal.returns-then-not-eat
unfolding path_from
returns-then-not-eat c =
    let e = one_more (λ n. path_from n c.loop-turn.found c.loop-turn.tokens) _ c.loop-turn._turn c.loop-turn-test.true c.loop-turn.invariant in
    first_of (search rules, grind (arith, common_steps))

pub loop-turn-preserved : goal.loop-turn-preserved
unfolding path_from
loop-turn-preserved c =
    let e = one_more (λ n. path_from n c.loop-turn.found c.loop-turn.tokens) _ c.loop-turn._turn c.loop-turn-test.true c.loop-turn.invariant in
    first_of (search rules, grind (arith, common_steps))

pub returns : goal.returns
unfolding path_from
returns c =
    let e = no_more (λ n. path_from n c.loop-turn.found c.loop-turn.tokens) _ c.loop-turn._turn c.loop-turn-test.false c.loop-turn.invariant in
    first_of (search rules, grind (arith, common_steps))
