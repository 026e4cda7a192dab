use Rattle.std.proofs.Common.{◌≡◌, ◌+◌, ◌-◌, ◌*◌}
use Rattle.tsdl_parser.specs.Parsers.{items_from}
use Rattle.tsdl_parser.specs.Reading.{fields, field}
use Rattle.tsdl_parser.proofs.types.+types.Given as goal

abbrev pub decreases-fields : goal.decreases-fields
decreases-fields l = 8 * l.depth + 0

abbrev pub decreases-body_if_any : goal.decreases-body_if_any
decreases-body_if_any l = 8 * l.depth + 1

abbrev pub decreases-fields_if_any : goal.decreases-fields_if_any
decreases-fields_if_any l = 8 * l.depth + 1

abbrev pub decreases-struct_tree : goal.decreases-struct_tree
decreases-struct_tree l = 8 * l.depth + 2

abbrev pub decreases-variant_tree : goal.decreases-variant_tree
decreases-variant_tree l = 8 * l.depth + 2

abbrev pub decreases-type_tree : goal.decreases-type_tree
decreases-type_tree l = 8 * l.depth + 3

abbrev pub decreases-typed : goal.decreases-typed
decreases-typed l = 8 * l.depth + 4

abbrev pub decreases-field : goal.decreases-field
decreases-field l = 8 * l.depth + 5

abbrev pub invariant-fields-loop-turn : goal.invariant-fields-loop-turn
invariant-fields-loop-turn l = fields l.depth l.fn.tokens ≡ items_from (field (fields (l.depth - 1))) (l._turn-end - l._turn) l.found l.tokens
