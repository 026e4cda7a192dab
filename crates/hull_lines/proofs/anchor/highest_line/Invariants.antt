use Rattle.hull_lines.proofs.Anchors.{IsHighestSeen}
use Rattle.hull_lines.proofs.anchor.highest_line.Given as goal

abbrev pub invariant-loop-point : goal.invariant-loop-point
invariant-loop-point l = IsHighestSeen l.points l.slope l.point-index l.best
