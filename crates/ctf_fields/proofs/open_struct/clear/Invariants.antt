use Rattle.std.proofs.Common.{length}
use Rattle.ctf_fields.proofs.open_struct.clear.Given as goal

abbrev pub decreases-loop : goal.decreases-loop
decreases-loop l = length l.open_structs
