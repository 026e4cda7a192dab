use Rattle.std.proofs.Common.{◌≡◌, ◌+◌, ◌*◌, drop}
use Rattle.ctf_fields.specs.Named.{first_in, first_member}
use Rattle.kernel_layout.specs.Sought.{text_of}
use Rattle.kernel_layout.proofs.known.+first.Given as goal

abbrev pub decreases-first_in : goal.decreases-first_in
decreases-first_in l = 4 * l.depth

abbrev pub decreases-first_at : goal.decreases-first_at
decreases-first_at l = 4 * l.depth + 1

abbrev pub decreases-first_member : goal.decreases-first_member
decreases-first_member l = 4 * l.depth + 2

abbrev pub invariant-first_member-loop-member : goal.invariant-first_member-loop-member
invariant-first_member-loop-member l = first_member (first_in l.depth l.table.names (text_of l.sought)) l.table.names (text_of l.sought) (drop l.member-index l.members) ≡ first_member (first_in l.depth l.table.names (text_of l.sought)) l.table.names (text_of l.sought) l.members
