use Rattle.std.proofs.Common.{length}
use Rattle.ctf_fields.proofs.scratch.emptied.Given as goal

abbrev pub decreases-loop : goal.decreases-loop
decreases-loop l = length l.list
