-- The type that a text's types are (CTF 1.8, sections 4 and 7.3.2), and the first rule that one breaks. A type is judged where its text ends, and those in it before.
use Rattle.std.specs.Prelude.{ℕ, zero, suc, Bool, true, false, not, ◌&&◌, nat_eq, nat_le, if◌then◌else◌, List, [], ◌∷◌, reverse, Option, Some, None, codes, Result, Ok, Err, ◌≡◌}
pub use Rattle.trace_types.specs.declared.limits.TheConstants.{MAX_ITEMS}
use Rattle.std.specs.Int.{is_power_of_two}
use Rattle.tsdl_parser.specs.declared.tree.Attr.{Attr}
use Rattle.tsdl_parser.specs.declared.tree.TypeTree.{TypeTree}
use Rattle.tsdl_parser.specs.declared.tree.TypeTree.TheVariants as tree
use Rattle.tsdl_parser.specs.declared.tree.StructTree.{StructTree, out-StructTree}
use Rattle.tsdl_parser.specs.declared.tree.StructBody.{StructBody, out-StructBody}
use Rattle.tsdl_parser.specs.declared.tree.VariantTree.{VariantTree, out-VariantTree}
use Rattle.tsdl_parser.specs.declared.tree.FieldTree.{FieldTree, out-FieldTree}
use Rattle.tsdl_parser.specs.declared.tree.EnumTree.{EnumTree}
use Rattle.tsdl_parser.specs.declared.tree.EnumBase.{EnumBase}
use Rattle.tsdl_parser.specs.declared.tree.EnumBase.TheVariants as base
use Rattle.tsdl_parser.specs.declared.tree.Label.{Label as LabelTree}
use Rattle.tsdl_parser.specs.declared.tree.Dim.{Dim}
use Rattle.tsdl_parser.specs.declared.tree.Dim.TheVariants as dim
use Rattle.type_scope.specs.BlockContexts.{BlockContext}
use Rattle.type_table.specs.declared.cause.MetaItemCause.{MetaItemCause}
use Rattle.type_table.specs.declared.cause.MetaItemCause.TheVariants.{FloatType, BadAttribute}
use Rattle.type_table.specs.declared.fault.Fault.{Fault}
use Rattle.type_table.specs.declared.fault.Fault.TheVariants.{Breaks, OutOfMemory}
use Rattle.type_table.specs.declared.integer.Integer.{Integer}
use Rattle.type_table.specs.declared.names.NameKind.TheVariants as kind
use Rattle.type_scope.specs.declared.field_path.Use.{Use}
use Rattle.type_scope.specs.declared.field_path.Use.TheVariants as used
use Rattle.type_scope.specs.declared.field_path.PathUse.TheVariants.{Tag, Length}
use Rattle.type_rules.specs.Attributes.{integer_fault, integer_of, is_twice}
use Rattle.type_table.specs.Names.{spaced}
use Rattle.type_table.specs.Types.{Text, Ty, Whole, Str, Variant, Array, Sequence, least_bits}
use Rattle.type_table.specs.Table.{field_path_or_here}
use Rattle.type_scope.specs.TypeScopes.{TypeScope, Step, Good, Bad, ◌>>=◌, ◌>>◌, pure, breaks, require, sized, opened, entered, with_field, struct_ended, variant_ended, fields_inside, enum_of, new_name, declared, known_as}
use Rattle.type_scope.specs.Ahead.{no_dims}
use Rattle.type_scope.specs.References.{check_path, field_path_said}
use Rattle.type_scope.specs.Rechecked.{rechecked}
use Rattle.type_scope.specs.Uses.{may_be}

-- ---- integers, strings, aliases

abbrev pub integer_by : Option MetaItemCause → Integer → Step Integer
integer_by None i = pure i
integer_by (Some cause) i = breaks cause

unfoldable pub integer : BlockContext → List Attr → Step Integer
integer a attrs = λ k. integer_by (integer_fault a.order k.declared.clocks attrs) (integer_of a.order k.declared.clocks attrs) k

unfoldable pub integer_type : BlockContext → List Attr → Step Ty
integer_type a attrs = integer a attrs >>= (λ i. pure (Whole i))

abbrev pub string_type : Option (List Attr) → Step Ty
string_type None = pure Str
string_type (Some attrs) = require (not (is_twice [] attrs)) BadAttribute >> pure Str

unfoldable pub alias : List Text → Step Ty
alias words = known_as kind.Alias (spaced words)

-- ---- enumerations

abbrev pub whole : Ty → Step Integer
whole (Whole i) = pure i
whole _ = breaks BadAttribute

unfoldable pub base_type : BlockContext → EnumBase → Step Ty
base_type a (base.Integer attrs) = integer_type a attrs
base_type a (base.Words words) = alias words

-- without one, the alias `int`
unfoldable pub base_or_int : BlockContext → Option EnumBase → Step Ty
base_or_int a None = alias (codes "int" ∷ [])
base_or_int a (Some b) = base_type a b

unfoldable pub new_enum : BlockContext → Option Text → Option EnumBase → List LabelTree → Step Ty
new_enum a name of labels = do
  ty ← base_or_int a of
  new_name kind.Enum name
  i ← whole ty
  e ← enum_of i labels
  declared kind.Enum name e
  pure e

-- the base of an enumeration that was declared before, if it is given, is an integer, too
abbrev pub known_enum : BlockContext → Text → Option EnumBase → Step Ty
known_enum a name None = known_as kind.Enum name
known_enum a name (Some b) = do
  ty ← base_type a b
  e ← known_as kind.Enum name
  whole ty
  pure e

-- ---- structures and variants, where it is known what their fields are

abbrev pub align_said : Option ℕ → Step ℕ
align_said None = pure 1
align_said (Some n) = require (is_power_of_two n && nat_le n 65536) BadAttribute >> pure n

-- what says an alignment
abbrev pub AlignSaid : Option ℕ → Result ℕ Fault → Type 0
AlignSaid align (Ok n) = (k : TypeScope) → align_said align k ≡ Good (n, k)
AlignSaid align (Err (Breaks cause)) = (k : TypeScope) → align_said align k ≡ Bad cause
AlignSaid align (Err OutOfMemory) = ⊥

abbrev pub Fields : Type 0
Fields = List FieldTree → Step (Unit {0})

unfoldable pub new_struct : Fields → Option Text → List FieldTree → Option ℕ → Step Ty
new_struct fields name body align = do
  opened true
  fields body
  new_name kind.Struct name
  n ← align_said align
  ty ← struct_ended n
  declared kind.Struct name ty
  pure ty

abbrev pub tagged : BlockContext → Option (List Text) → Ty → Step Ty
tagged a None ty = pure ty
tagged a (Some words) ty = do
  t ← sized (Variant (field_path_said words) (fields_inside ty))
  check_path a Tag words
  pure t

unfoldable pub new_variant : Fields → BlockContext → Option Text → Option (List Text) → List FieldTree → Step Ty
new_variant fields a name tag body = do
  opened false
  fields body
  new_name kind.Variant name
  ty ← variant_ended
  declared kind.Variant name ty
  tagged a tag ty

-- the field path to its tag is looked at with the field paths in it
abbrev pub retagged : Option (List Text) → Ty → Step Ty
retagged None ty = pure ty
retagged (Some words) ty = sized (Variant (field_path_said words) (fields_inside ty))

-- ---- types, each with whether it was declared before

abbrev pub fresh : Step Ty → Step (Ty × Bool)
fresh step = step >>= (λ ty. pure (ty, false))

abbrev pub known : Step Ty → Step (Ty × Bool)
known step = step >>= (λ ty. pure (ty, true))

abbrev pub struct_by : Fields → Option Text → Option StructBody → Step (Ty × Bool)
struct_by fields name (Some body) = fresh (new_struct fields name (out-StructBody body).fields (out-StructBody body).align)
struct_by fields (Some name) None = known (known_as kind.Struct name)
struct_by fields None None = breaks BadAttribute

abbrev pub variant_by : Fields → BlockContext → Option Text → Option (List Text) → Option (List FieldTree) → Step (Ty × Bool)
variant_by fields a name tag (Some body) = fresh (new_variant fields a name tag body)
variant_by fields a (Some name) tag None = known (known_as kind.Variant name >>= retagged tag)
variant_by fields a None tag None = breaks BadAttribute

abbrev pub enum_by : BlockContext → Option Text → Option EnumBase → Option (List LabelTree) → Step (Ty × Bool)
enum_by a name of (Some labels) = fresh (new_enum a name of labels)
enum_by a (Some name) of None = known (known_enum a name of)
enum_by a None of None = breaks BadAttribute

unfoldable pub struct_type : Fields → StructTree → Step (Ty × Bool)
struct_type fields t = struct_by fields (out-StructTree t).name (out-StructTree t).body

unfoldable pub variant_type : Fields → BlockContext → VariantTree → Step (Ty × Bool)
variant_type fields a t = variant_by fields a (out-VariantTree t).name (out-VariantTree t).tag (out-VariantTree t).body

unfoldable pub enum_type : BlockContext → EnumTree → Step (Ty × Bool)
enum_type a t = enum_by a t.name t.base t.labels

unfoldable pub type_of : Fields → BlockContext → TypeTree → Step (Ty × Bool)
type_of fields a (tree.Integer attrs) = fresh (integer_type a attrs)
type_of fields a (tree.Float attrs) = breaks FloatType
type_of fields a (tree.Str attrs) = fresh (string_type attrs)
type_of fields a (tree.Struct t) = struct_type fields t
type_of fields a (tree.Variant t) = variant_type fields a t
type_of fields a (tree.Enum t) = enum_type a t
type_of fields a (tree.Words words) = known (alias words)

-- ---- uses

-- the field paths in a type that was declared before are looked at from here
abbrev pub looked_at : BlockContext → Bool → Ty → Step (Unit {0})
looked_at a false ty = pure tt
looked_at a true ty = rechecked a ty

unfoldable pub used_as : Fields → BlockContext → Use → TypeTree → Step Ty
used_as fields a role t = do
  r ← type_of fields a t
  require (may_be role r.0) BadAttribute
  looked_at a r.1 r.0
  pure r.0

-- ---- fields

abbrev pub list_by : BlockContext → Dim → Ty → Step Ty
list_by a (dim.Fixed n) ty = require (nat_le n MAX_ITEMS) BadAttribute >> sized (Array n ty)
list_by a (dim.Path words) ty = do
  t ← sized (Sequence (field_path_or_here (field_path_said words)) ty)
  check_path a Length words
  pure t

-- an element takes a bit at least
unfoldable pub list_of : BlockContext → Dim → Ty → Step Ty
list_of a d ty = require (not (nat_eq (least_bits ty) 0)) BadAttribute >> list_by a d ty

abbrev pub lists_on : BlockContext → List Dim → Ty → Step Ty
lists_on a [] ty = pure ty
lists_on a (d ∷ ds) ty = list_of a d ty >>= lists_on a ds

-- the inner lists first, which are the last that are written
abbrev pub lists : BlockContext → List Dim → Ty → Step Ty
lists a dims ty = lists_on a (reverse dims) ty

abbrev pub is_struct_tree : TypeTree → Bool
is_struct_tree (tree.Struct t) = true
is_struct_tree _ = false

unfoldable pub field : Fields → BlockContext → FieldTree → Step (Unit {0})
field fields a f = do
  entered (if is_struct_tree (out-FieldTree f).ty && no_dims (out-FieldTree f).dims then Some (out-FieldTree f).name else None)
  ty ← used_as fields a used.Field (out-FieldTree f).ty
  l ← lists a (out-FieldTree f).dims ty
  with_field (out-FieldTree f).name l

abbrev pub each : (FieldTree → Step (Unit {0})) → Fields
each step [] = pure tt
each step (f ∷ fs) = step f >> each step fs

-- so many braces may be open; a tree with more in it breaks the rule on depth
unfoldable pub fields_within : ℕ → BlockContext → Fields
fields_within zero a body = breaks BadAttribute
fields_within (suc depth) a body = each (field (fields_within depth a) a) body
