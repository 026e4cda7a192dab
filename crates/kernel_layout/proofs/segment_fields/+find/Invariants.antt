use Rattle.std.proofs.Common.{◌≡◌, ◌+◌, ◌*◌, drop}
use Rattle.ctf_fields.specs.Fields.{or_else}
use Rattle.ctf_fields.specs.Named.{first_in, first_member}
use Rattle.kernel_layout.specs.SegmentParts.{SegmentPart, found_of, part_name}
use Rattle.kernel_layout.proofs.segment_fields.+find.Given as goal

abbrev pub decreases-find_in : goal.decreases-find_in
decreases-find_in l = 4 * l.depth

abbrev pub decreases-find_at : goal.decreases-find_at
decreases-find_at l = 4 * l.depth + 1

abbrev pub decreases-find_among : goal.decreases-find_among
decreases-find_among l = 4 * l.depth + 2

abbrev pub invariant-find_among-loop-member : goal.invariant-find_among-loop-member
invariant-find_among-loop-member l =
    (p : SegmentPart) → or_else (found_of p l.found) (first_member (first_in l.depth l.table.names (part_name p)) l.table.names (part_name p) (drop l.member-index l.members)) ≡ or_else (found_of p l.initial.found) (first_member (first_in l.depth l.table.names (part_name p)) l.table.names (part_name p) l.members)
