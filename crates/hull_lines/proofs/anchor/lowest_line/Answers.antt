use Rattle.std.proofs.Common.{arith, refl}
use Rattle.hull_lines.proofs.Anchors.{lowest_is}
use Rattle.hull_lines.proofs.anchor.lowest_line.Goals as goal

pub returns : goal.returns
returns c = lowest_is c.args.points.now c.loop-point.best _ c.loop-point.point-index (omega arith) refl refl c.loop-point.invariant
