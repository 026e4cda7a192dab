use Rattle.std.proofs.Common.{length}
use Rattle.ctf_fields.proofs.field_path.+from_inside.Given as goal

abbrev pub decreases-from_inside : goal.decreases-from_inside
decreases-from_inside l = length l.open_structs.now
