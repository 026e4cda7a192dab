use Rattle.std.proofs.Common.{rules, arith}
use Rattle.std.proofs.lemmas.Grind.{common_steps}
use Rattle.tsdl_parser.specs.Reading.{dims, dims_from}
use Rattle.tsdl_parser.proofs.Turns.{one_more, no_more}
use Rattle.tsdl_parser.proofs.types.dims.Goals as goal

pub loop-turn-init : goal.loop-turn-init
unfolding dims
loop-turn-init c = first_of (search rules, grind (arith, common_steps))

pub returns-then-not-eat : goal.returns-then-not-eat
unfolding dims_from
returns-then-not-eat c =
    let e = one_more (λ n. dims_from n c.loop-turn.found c.loop-turn.tokens) _ c.loop-turn._turn c.loop-turn-test.true c.loop-turn.invariant in
    first_of (search rules, grind (arith, common_steps))

pub returns-in_err-dim : goal.returns-in_err-dim
unfolding dims_from
returns-in_err-dim c =
    let e = one_more (λ n. dims_from n c.loop-turn.found c.loop-turn.tokens) _ c.loop-turn._turn c.loop-turn-test.true c.loop-turn.invariant in
    first_of (search rules, grind (arith, common_steps))

pub loop-turn-preserved : goal.loop-turn-preserved
unfolding dims_from
loop-turn-preserved c =
    let e = one_more (λ n. dims_from n c.loop-turn.found c.loop-turn.tokens) _ c.loop-turn._turn c.loop-turn-test.true c.loop-turn.invariant in
    first_of (search rules, grind (arith, common_steps))

pub returns : goal.returns
unfolding dims_from
returns c =
    let e = no_more (λ n. dims_from n c.loop-turn.found c.loop-turn.tokens) _ c.loop-turn._turn c.loop-turn-test.false c.loop-turn.invariant in
    first_of (search rules, grind (arith, common_steps))
