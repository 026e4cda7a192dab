use Rattle.std.proofs.Common.{◌≡◌, ◌+◌, ◌-◌, ◌*◌, ◌≤◌, ◌^◌, ◌∷◌, drop, reverse}
use Rattle.ctf_fields.specs.Reading.{read, read_items, read_members}
use Rattle.ctf_fields.proofs.read.+read.Given as goal

abbrev pub decreases-read : goal.decreases-read
decreases-read l = 8 * l.depth + 0

abbrev pub decreases-read_nested : goal.decreases-read_nested
decreases-read_nested l = 8 * l.depth + 1

abbrev pub decreases-read_member : goal.decreases-read_member
decreases-read_member l = 8 * l.depth + 2

abbrev pub decreases-add_item : goal.decreases-add_item
decreases-add_item l = 8 * l.depth + 1

abbrev pub decreases-read_choice : goal.decreases-read_choice
decreases-read_choice l = 8 * l.depth + 1

abbrev pub decreases-read_members : goal.decreases-read_members
decreases-read_members l = 8 * l.depth + 3

abbrev pub decreases-add_each : goal.decreases-add_each
decreases-add_each l = 8 * l.depth + 2

abbrev pub decreases-add_items : goal.decreases-add_items
decreases-add_items l = 8 * l.depth + 3

abbrev pub decreases-read_items : goal.decreases-read_items
decreases-read_items l = 8 * l.depth + 4

abbrev pub decreases-read_struct : goal.decreases-read_struct
decreases-read_struct l = 8 * l.depth + 4

abbrev pub decreases-read_list : goal.decreases-read_list
decreases-read_list l = 8 * l.depth + 5

abbrev pub decreases-read_by : goal.decreases-read_by
decreases-read_by l = 8 * l.depth + 6

abbrev pub invariant-read_members-loop-field : goal.invariant-read_members-loop-field
invariant-read_members-loop-field l = (read_members (read l.fn.depth l.fn.source) l.fields (l.fn.inner ∷ reverse l.fn.scratch.open_structs) l.fn.at ≡ read_members (read l.fn.depth l.fn.source) (drop l.field-index l.fields) (l.inner ∷ reverse l.scratch.open_structs) l.bit)
    × (l.fn.at ≤ l.bit) × (l.bit ≤ 2 ^ 63)
    × (reverse l.scratch.open_structs ≡ reverse l.fn.scratch.open_structs)

abbrev pub invariant-add_each-loop-index : goal.invariant-add_each-loop-index
invariant-add_each-loop-index l = (read_items (read l.fn.depth l.fn.source) l.item (reverse l.fn.scratch.open_structs) l.count l.fn.items l.fn.at ≡ read_items (read l.fn.depth l.fn.source) l.item (reverse l.scratch.open_structs) (l.count - l._index) l.items l.bit)
    × (l.fn.at ≤ l.bit) × (l.bit ≤ 2 ^ 63)
    × (reverse l.scratch.open_structs ≡ reverse l.fn.scratch.open_structs)
