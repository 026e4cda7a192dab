use Rattle.std.proofs.Common.{length}
use Rattle.type_scope.proofs.scope.references.+from_outside.Given as goal

abbrev pub decreases-from_outside : goal.decreases-from_outside
decreases-from_outside l = length l.frames.now
