use Rattle.std.proofs.Common.{arith, refl}
use Rattle.hull_lines.proofs.Anchors.{highest_is}
use Rattle.hull_lines.proofs.anchor.highest_line.Goals as goal

pub returns : goal.returns
returns c = highest_is c.args.points.now c.loop-point.best _ c.loop-point.point-index (omega arith) refl refl c.loop-point.invariant
