use Rattle.std.proofs.Common.{length}
use Rattle.tsdl_parser.proofs.Reading.{HasRead}
use Rattle.tsdl_parser.proofs.text.parse_items.Given as goal

abbrev pub invariant-loop-rest : goal.invariant-loop-rest
invariant-loop-rest l = HasRead l.tokens l.rest l.decls.items

abbrev pub decreases-loop-rest : goal.decreases-loop-rest
decreases-loop-rest l = length l.rest
