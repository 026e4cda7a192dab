use Rattle.std.proofs.Common.{rules, arith}
use Rattle.std.proofs.lemmas.Grind.{common_steps}
use Rattle.tsdl_parser.specs.Reading.{words, words_from}
use Rattle.tsdl_parser.proofs.Turns.{one_more, no_more}
use Rattle.tsdl_parser.proofs.values.words.Goals as goal

pub returns-in_err-name : goal.returns-in_err-name
unfolding words
returns-in_err-name c = first_of (search rules, grind (arith, common_steps))

pub loop-turn-init : goal.loop-turn-init
unfolding words
loop-turn-init c = first_of (search rules, grind (arith, common_steps))

pub returns-in_err-word : goal.returns-in_err-word
unfolding words_from
returns-in_err-word c =
    let e = one_more (λ n. words_from n c.loop-turn.found c.loop-turn.tokens) _ c.loop-turn._turn c.loop-turn-test.true c.loop-turn.invariant in
    first_of (search rules, grind (arith, common_steps))

pub returns-then-not-sees : goal.returns-then-not-sees
unfolding words_from
returns-then-not-sees c =
    let e = one_more (λ n. words_from n c.loop-turn.found c.loop-turn.tokens) _ c.loop-turn._turn c.loop-turn-test.true c.loop-turn.invariant in
    first_of (search rules, grind (arith, common_steps))

pub loop-turn-preserved : goal.loop-turn-preserved
unfolding words_from
loop-turn-preserved c =
    let e = one_more (λ n. words_from n c.loop-turn.found c.loop-turn.tokens) _ c.loop-turn._turn c.loop-turn-test.true c.loop-turn.invariant in
    first_of (search rules, grind (arith, common_steps))

pub returns : goal.returns
unfolding words_from
returns c =
    let e = no_more (λ n. words_from n c.loop-turn.found c.loop-turn.tokens) _ c.loop-turn._turn c.loop-turn-test.false c.loop-turn.invariant in
    first_of (search rules, grind (arith, common_steps))
