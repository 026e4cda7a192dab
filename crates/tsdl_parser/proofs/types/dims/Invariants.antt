use Rattle.std.proofs.Common.{◌≡◌, ◌-◌}
use Rattle.tsdl_parser.specs.Reading.{dims, dims_from}
use Rattle.tsdl_parser.proofs.types.dims.Given as goal

abbrev pub invariant-loop-turn : goal.invariant-loop-turn
invariant-loop-turn l = dims l.fn.tokens ≡ dims_from (l._turn-end - l._turn) l.found l.tokens
