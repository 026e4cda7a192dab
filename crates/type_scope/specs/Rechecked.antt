-- The field paths in a type that was declared before, from where it is used.
use Rattle.std.specs.Prelude.{Option, Some, None, Bool, true, false}
use Rattle.type_scope.specs.BlockContexts.{BlockContext}
use Rattle.type_scope.specs.declared.field_path.PathUse.{PathUse}
use Rattle.type_scope.specs.declared.field_path.PathUse.TheVariants.{Tag, Length}
use Rattle.type_scope.specs.TypeScopes.{Step, ◌>>◌, pure, opened, entered, with_field, ended}
use Rattle.type_scope.specs.References.{resolve_from, settled}
use Rattle.type_table.specs.Types.{Text, FieldPath, Ty, Fields, Whole, Named, Str, Struct, Variant, Array, Sequence, No, Field}

abbrev pub passed : BlockContext → PathUse → Option FieldPath → Step (Unit {0})
passed a path_use None = pure tt
passed a path_use (Some field_path) = λ k. settled (resolve_from a k path_use field_path.scope field_path.names) path_use field_path.scope field_path.names k

abbrev pub inner_name : Text → Ty → Option Text
inner_name name (Struct align fields) = Some name
inner_name name _ = None

abbrev mutual
  pub rechecked : BlockContext → Ty → Step (Unit {0})
  rechecked a (Whole i) = pure tt
  rechecked a (Named i labels) = pure tt
  rechecked a Str = pure tt
  rechecked a (Struct align fields) = opened true >> rechecked_all a fields >> ended
  rechecked a (Variant field_path fields) = opened false >> rechecked_all a fields >> ended >> passed a Tag field_path
  rechecked a (Array n item) = rechecked a item
  rechecked a (Sequence field_path item) = rechecked a item >> passed a Length (Some field_path)

  pub rechecked_all : BlockContext → Fields → Step (Unit {0})
  rechecked_all a No = pure tt
  rechecked_all a (Field name ty fields) = entered (inner_name name ty) >> rechecked a ty >> with_field name ty >> rechecked_all a fields

-- fields in a frame of their own, and one of them
abbrev pub rechecked_inside : BlockContext → Bool → Fields → Step (Unit {0})
rechecked_inside a is_struct fields = opened is_struct >> rechecked_all a fields >> ended

abbrev pub rechecked_field : BlockContext → Text → Ty → Step (Unit {0})
rechecked_field a name ty = entered (inner_name name ty) >> rechecked a ty >> with_field name ty
