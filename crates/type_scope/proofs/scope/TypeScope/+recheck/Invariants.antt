use Rattle.std.proofs.Common.{◌≡◌, ◌+◌, ◌*◌, length, drop}
use Rattle.type_scope.specs.Rechecked.{rechecked_all}
use Rattle.type_table.specs.Table.{FieldNamesIn, FieldsIn, fields_at, trees}
use Rattle.type_scope.specs.View.{state}
use Rattle.type_scope.proofs.scope.TypeScope.+recheck.Given as goal

abbrev pub decreases-recheck_at : goal.decreases-recheck_at
decreases-recheck_at l = 4 * l.index + 3

abbrev pub decreases-recheck_inside : goal.decreases-recheck_inside
decreases-recheck_inside l = 4 * l.above + 2

abbrev pub decreases-recheck_all : goal.decreases-recheck_all
decreases-recheck_all l = 4 * l.above + 1

abbrev pub decreases-recheck_field : goal.decreases-recheck_field
decreases-recheck_field l = 4 * l.above

abbrev pub invariant-recheck_all-loop-field : goal.invariant-recheck_all-loop-field
invariant-recheck_all-loop-field l =
    (rechecked_all l.fn.block_context (fields_at l.fn.self.table.names (trees l.fn.self.table) l.fields) (state l.fn.self).known ≡ rechecked_all l.fn.block_context (fields_at l.fn.self.table.names (trees l.fn.self.table) (drop l.field-index l.fields)) (state l.self).known)
    × (l.self.table ≡ l.fn.self.table)
    × FieldsIn l.fn.above (drop l.field-index l.fields)
    × FieldNamesIn (length l.fn.self.table.names) (drop l.field-index l.fields)
