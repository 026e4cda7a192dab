use Rattle.std.proofs.Common.{◌≡◌, ◌+◌, ◌*◌, drop}
use Rattle.std.specs.Option.{option_copied}
use Rattle.ctf_fields.specs.Fields.{or_else}
use Rattle.ctf_fields.specs.Named.{first_in, first_member, last_in, last_member}
use Rattle.ctf_fields.proofs.id_and_timestamp.+last_and_first.Given as goal

abbrev pub decreases-last_and_first_in : goal.decreases-last_and_first_in
decreases-last_and_first_in l = 4 * l.depth

abbrev pub decreases-last_and_first_at : goal.decreases-last_and_first_at
decreases-last_and_first_at l = 4 * l.depth + 1

abbrev pub decreases-last_and_first_member : goal.decreases-last_and_first_member
decreases-last_and_first_member l = 4 * l.depth + 2

abbrev pub invariant-last_and_first_member-loop-member : goal.invariant-last_and_first_member-loop-member
invariant-last_and_first_member-loop-member l = (or_else (last_member (last_in l.depth l.table.names l.last) l.table.names l.last (drop l.member-index l.members)) (option_copied l.both.last) ≡ or_else (last_member (last_in l.depth l.table.names l.last) l.table.names l.last l.members) (option_copied l.fn.found.last))
    × (or_else (option_copied l.both.first) (first_member (first_in l.depth l.table.names l.first) l.table.names l.first (drop l.member-index l.members)) ≡ or_else (option_copied l.fn.found.first) (first_member (first_in l.depth l.table.names l.first) l.table.names l.first l.members))
