use Rattle.std.proofs.Common.{length}
use Rattle.type_rules.proofs.lists.+lists.Given as goal

abbrev pub decreases-lists : goal.decreases-lists
decreases-lists l = length l.dims.now
