use Rattle.std.proofs.Common.{◌-◌, rules, arith}
use Rattle.std.proofs.lemmas.Grind.{common_steps}
use Rattle.tsdl_parser.specs.Reading.{field, fields}
use Rattle.tsdl_parser.specs.Parsers.{items_from}
use Rattle.tsdl_parser.proofs.Turns.{one_more, no_more, deeper}
use Rattle.tsdl_parser.proofs.types.+types.Goals as goal

pub fields-returns-then-depth-eq0 : goal.fields-returns-then-depth-eq0
unfolding fields
fields-returns-then-depth-eq0 g c =
    first_of (search rules, grind (arith, common_steps))

pub fields-returns-in_err-expect : goal.fields-returns-in_err-expect
unfolding fields
fields-returns-in_err-expect g c =
    let d = deeper (λ n. fields n c.args.tokens.now) c.args.depth (search rules) in
    first_of (search rules, grind (arith, common_steps))

pub fields-loop-turn-init : goal.fields-loop-turn-init
unfolding fields
fields-loop-turn-init g c =
    let d = deeper (λ n. fields n c.args.tokens.now) c.args.depth (search rules) in
    first_of (search rules, grind (arith, common_steps))

pub fields-returns-then-eat : goal.fields-returns-then-eat
unfolding items_from
fields-returns-then-eat g c =
    let e = one_more (λ n. items_from (field (fields (c.args.depth - 1))) n c.loop-turn.found c.loop-turn.tokens) _ c.loop-turn._turn c.loop-turn-test.true c.loop-turn.invariant in
    first_of (search rules, grind (arith, common_steps))

pub fields-returns-in_err-field : goal.fields-returns-in_err-field
unfolding items_from
fields-returns-in_err-field g c =
    let e = one_more (λ n. items_from (field (fields (c.args.depth - 1))) n c.loop-turn.found c.loop-turn.tokens) _ c.loop-turn._turn c.loop-turn-test.true c.loop-turn.invariant in
    first_of (search rules, grind (arith, common_steps))

pub fields-loop-turn-preserved : goal.fields-loop-turn-preserved
unfolding items_from
fields-loop-turn-preserved g c =
    let e = one_more (λ n. items_from (field (fields (c.args.depth - 1))) n c.loop-turn.found c.loop-turn.tokens) _ c.loop-turn._turn c.loop-turn-test.true c.loop-turn.invariant in
    first_of (search rules, grind (arith, common_steps))

pub fields-returns : goal.fields-returns
unfolding items_from
fields-returns g c =
    let e = no_more (λ n. items_from (field (fields (c.args.depth - 1))) n c.loop-turn.found c.loop-turn.tokens) _ c.loop-turn._turn c.loop-turn-test.false c.loop-turn.invariant in
    first_of (search rules, grind (arith, common_steps))
