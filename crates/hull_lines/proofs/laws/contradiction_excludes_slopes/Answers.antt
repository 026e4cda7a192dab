use Rattle.hull_lines.proofs.Chords.{excludes}
use Rattle.hull_lines.proofs.laws.contradiction_excludes_slopes.Goals as goal

pub returns : goal.returns
returns c = excludes c.args.lower.now c.args.upper.now c.args.drift
