use Rattle.std.proofs.Common.{◌-◌}
use Rattle.critical_path.specs.Pieces.{AreOpen}
use Rattle.critical_path.specs.Steps.{IsHeld}
use Rattle.critical_path.proofs.path.pieces.Given as goal

abbrev pub invariant-loop-last : goal.invariant-loop-last
invariant-loop-last l = AreOpen (IsHeld l.graph l.host l.tid) l.from l.to l.pieces.items l.last

abbrev pub decreases-loop-last : goal.decreases-loop-last
decreases-loop-last l = l.to - l.last.to
