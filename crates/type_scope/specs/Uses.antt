-- What a type may be used as.
use Rattle.std.specs.Prelude.{Bool, true, false, not, None}
use Rattle.type_scope.specs.declared.field_path.Use.{Use}
use Rattle.type_scope.specs.declared.field_path.Use.TheVariants as used
use Rattle.type_table.specs.Types.{Ty, Whole, Struct, Variant}

abbrev pub is_whole : Ty → Bool
is_whole (Whole i) = true
is_whole _ = false

abbrev pub is_loose : Ty → Bool
is_loose (Variant None fields) = true
is_loose _ = false

abbrev pub is_struct : Ty → Bool
is_struct (Struct align fields) = true
is_struct _ = false

-- a field and an element have a tag where they are variants
abbrev pub may_be : Use → Ty → Bool
may_be used.Field ty = not (is_loose ty)
may_be used.Alone ty = true
