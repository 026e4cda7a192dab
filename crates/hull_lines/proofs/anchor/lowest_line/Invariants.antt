use Rattle.hull_lines.proofs.Anchors.{IsLowestSeen}
use Rattle.hull_lines.proofs.anchor.lowest_line.Given as goal

abbrev pub invariant-loop-point : goal.invariant-loop-point
invariant-loop-point l = IsLowestSeen l.points l.slope l.point-index l.best
