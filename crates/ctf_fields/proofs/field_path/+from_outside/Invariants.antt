use Rattle.std.proofs.Common.{length}
use Rattle.ctf_fields.proofs.field_path.+from_outside.Given as goal

abbrev pub decreases-from_outside : goal.decreases-from_outside
decreases-from_outside l = length l.open_structs.now
