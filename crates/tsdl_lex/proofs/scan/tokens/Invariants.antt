use Rattle.std.proofs.Common.{◌-◌, length}
use Rattle.tsdl_lex.proofs.Pieces.{HasRead}
use Rattle.tsdl_lex.proofs.scan.tokens.Given as goal

abbrev pub invariant-loop-start : goal.invariant-loop-start
invariant-loop-start l = HasRead l.text l.start l.tokens.items

abbrev pub decreases-loop-start : goal.decreases-loop-start
decreases-loop-start l = length l.text - l.start
