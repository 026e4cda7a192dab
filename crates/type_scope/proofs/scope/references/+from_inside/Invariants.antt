use Rattle.std.proofs.Common.{length}
use Rattle.type_scope.proofs.scope.references.+from_inside.Given as goal

abbrev pub decreases-from_inside : goal.decreases-from_inside
decreases-from_inside l = length l.frames.now
