use Rattle.std.proofs.Common.{◌≡◌, ◌-◌}
use Rattle.tsdl_parser.specs.Parsers.{items_from}
use Rattle.tsdl_parser.specs.Reading.{entry, entries}
use Rattle.tsdl_parser.proofs.declarations.entries.Given as goal

abbrev pub invariant-loop-turn : goal.invariant-loop-turn
invariant-loop-turn l = entries l.fn.tokens ≡ items_from entry (l._turn-end - l._turn) l.found l.tokens
