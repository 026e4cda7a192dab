use Rattle.std.proofs.Common.{◌≡◌, ◌+◌, ◌-◌, ◌*◌, drop}
use Rattle.type_rules.specs.Typing.{each, field, fields_within}
use Rattle.type_scope.specs.View.{state}
use Rattle.type_rules.proofs.types.+types.Given as goal

abbrev pub decreases-fields : goal.decreases-fields
decreases-fields l = 8 * l.depth + 0

abbrev pub decreases-new_struct : goal.decreases-new_struct
decreases-new_struct l = 8 * l.depth + 1

abbrev pub decreases-new_variant : goal.decreases-new_variant
decreases-new_variant l = 8 * l.depth + 1

abbrev pub decreases-struct_type : goal.decreases-struct_type
decreases-struct_type l = 8 * l.depth + 2

abbrev pub decreases-variant_type : goal.decreases-variant_type
decreases-variant_type l = 8 * l.depth + 2

abbrev pub decreases-type_of : goal.decreases-type_of
decreases-type_of l = 8 * l.depth + 3

abbrev pub decreases-used_as : goal.decreases-used_as
decreases-used_as l = 8 * l.depth + 4

abbrev pub decreases-field : goal.decreases-field
decreases-field l = 8 * l.depth + 5

abbrev pub invariant-fields-loop-tree : goal.invariant-fields-loop-tree
invariant-fields-loop-tree l = fields_within l.fn.depth l.fn.block_context l.body (state l.fn.types).known ≡ each (field (fields_within (l.fn.depth - 1) l.fn.block_context) l.fn.block_context) (drop l.tree-index l.body) (state l.types).known
