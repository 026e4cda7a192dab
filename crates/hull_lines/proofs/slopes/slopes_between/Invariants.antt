use Rattle.hull_lines.proofs.Tight.{PartSeen}
use Rattle.hull_lines.proofs.slopes.slopes_between.Given as goal

abbrev pub invariant-loop : goal.invariant-loop
invariant-loop l = PartSeen l.lower l.upper l.drift l.initial.range l.range
