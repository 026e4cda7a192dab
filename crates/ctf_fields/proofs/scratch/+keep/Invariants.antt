use Rattle.std.proofs.Common.{◌+◌, ◌*◌, length}
use Rattle.ctf_fields.proofs.scratch.+keep.Given as goal

abbrev pub decreases-keep : goal.decreases-keep
decreases-keep l = 2 * l.depth

abbrev pub decreases-keep_list : goal.decreases-keep_list
decreases-keep_list l = 2 * l.depth + 1

abbrev pub decreases-keep_list-loop-member : goal.decreases-keep_list-loop-member
decreases-keep_list-loop-member l = length l.members
