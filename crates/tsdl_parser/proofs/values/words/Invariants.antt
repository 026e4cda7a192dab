use Rattle.std.proofs.Common.{◌≡◌, ◌-◌}
use Rattle.tsdl_parser.specs.Reading.{words, words_from}
use Rattle.tsdl_parser.proofs.values.words.Given as goal

abbrev pub invariant-loop-turn : goal.invariant-loop-turn
invariant-loop-turn l = words l.fn.tokens ≡ words_from (l._turn-end - l._turn) l.found l.tokens
