use Rattle.std.proofs.Common.{◌≡◌, ◌-◌}
use Rattle.tsdl_parser.specs.Reading.{labels, labels_from}
use Rattle.tsdl_parser.proofs.enumerations.labels.Given as goal

abbrev pub invariant-loop-turn : goal.invariant-loop-turn
invariant-loop-turn l = labels l.fn.tokens ≡ labels_from (l._turn-end - l._turn) l.found l.tokens
