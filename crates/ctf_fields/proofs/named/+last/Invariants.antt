use Rattle.std.proofs.Common.{◌≡◌, ◌+◌, ◌*◌, drop}
use Rattle.std.specs.Option.{option_copied}
use Rattle.ctf_fields.specs.Fields.{or_else}
use Rattle.ctf_fields.specs.Named.{last_in, last_member}
use Rattle.ctf_fields.proofs.named.+last.Given as goal

abbrev pub decreases-last_in : goal.decreases-last_in
decreases-last_in l = 4 * l.depth

abbrev pub decreases-last_at : goal.decreases-last_at
decreases-last_at l = 4 * l.depth + 1

abbrev pub decreases-last_member : goal.decreases-last_member
decreases-last_member l = 4 * l.depth + 2

abbrev pub invariant-last_member-loop-member : goal.invariant-last_member-loop-member
invariant-last_member-loop-member l = or_else (last_member (last_in l.depth l.table.names l.text) l.table.names l.text (drop l.member-index l.members)) (option_copied l.found) ≡ last_member (last_in l.depth l.table.names l.text) l.table.names l.text l.members
