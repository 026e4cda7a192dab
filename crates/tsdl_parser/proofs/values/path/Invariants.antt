use Rattle.std.proofs.Common.{◌≡◌, ◌-◌}
use Rattle.tsdl_parser.specs.Reading.{path, path_from}
use Rattle.tsdl_parser.proofs.values.path.Given as goal

abbrev pub invariant-loop-turn : goal.invariant-loop-turn
invariant-loop-turn l = path l.fn.tokens ≡ path_from (l._turn-end - l._turn) l.found l.tokens
