use Rattle.std.proofs.Common.{◌≡◌, ◌-◌}
use Rattle.tsdl_parser.specs.Parsers.{items_from}
use Rattle.tsdl_parser.specs.Reading.{attr, attrs}
use Rattle.tsdl_parser.proofs.values.attrs.Given as goal

abbrev pub invariant-loop-turn : goal.invariant-loop-turn
invariant-loop-turn l = attrs l.fn.tokens ≡ items_from attr (l._turn-end - l._turn) l.found l.tokens
