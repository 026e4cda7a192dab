-- The types of a text as a list in which each names others by smaller indices, and the trees that they stand for.
use Rattle.std.specs.Prelude.{◌≡◌, ℕ, ◌<◌, ◌≤◌, ◌+◌, ◌%◌, ◌^◌, ◌++◌, List, [], ◌∷◌, Option, Some, None, get_or, unwrap_or, length, map, false}
use Rattle.trace_types.specs.declared.byte_order.ByteOrderKind.TheVariants.{Little}
use Rattle.type_table.specs.declared.meta.TypeMeta.{TypeMeta}
use Rattle.type_table.specs.declared.meta.TypeMeta.TheVariants as meta
use Rattle.type_table.specs.declared.meta.FieldMeta.{FieldMeta}
use Rattle.type_table.specs.declared.meta.LabelMeta.{LabelMeta}
use Rattle.type_table.specs.declared.meta.Reference.{Reference}
use Rattle.type_table.specs.declared.meta.ScopeName.{ScopeName}
use Rattle.type_table.specs.declared.type_size.TypeSize.{TypeSize}
use Rattle.type_table.specs.declared.integer.Integer.{Integer}
use Rattle.type_table.specs.TypeSizes.{type_size_of, AreFit}
use Rattle.type_table.specs.Types.{Text, Label, FieldPath, Ty, Fields, Whole, Named, Str, Struct, Variant, Array, Sequence, No, Field}

pub record Table : Type 0 where
  pub names : List Text
  pub types : List TypeMeta

-- the name of this number
abbrev pub name_at : List Text → ℕ → Text
name_at names n = get_or names n []

-- the tree of this number
abbrev pub tree_at : List Ty → ℕ → Ty
tree_at trees n = get_or trees n Str

abbrev pub field_path_by : Option ScopeName → List Text → Option FieldPath
field_path_by None [] = None
field_path_by None (w ∷ ws) = Some (record { scope = None; names = w ∷ ws })
field_path_by (Some scope) ws = Some (record { scope = Some scope; names = ws })

-- a reference as a field path; the empty one is none
abbrev pub field_path_of : List Text → Reference → Option FieldPath
field_path_of names r = field_path_by r.scope (map (name_at names) r.words)

abbrev pub field_path_or_here : Option FieldPath → FieldPath
field_path_or_here field_path = unwrap_or field_path (record { scope = None; names = [] })

abbrev pub fields_at : List Text → List Ty → List FieldMeta → Fields
fields_at names trees [] = No
fields_at names trees (f ∷ fs) = Field (name_at names f.name) (tree_at trees f.ty) (fields_at names trees fs)

abbrev pub labels_at : List Text → List LabelMeta → List Label
labels_at names ls = map (λ l. record { name = name_at names l.name; low = l.low; high = l.high }) ls

-- the integer of a whole type
abbrev pub integer_in : Ty → Integer
integer_in (Whole i) = i
integer_in (Named i labels) = i
integer_in _ = record { size = 0; align = 1; signed = false; order = Little; clock = None }

-- a type's tree, where the trees before it are known
abbrev pub shape : List Text → List Ty → TypeMeta → Ty
shape names trees (meta.Integer integer) = Whole integer
shape names trees (meta.Enum base labels) = Named (integer_in (tree_at trees base)) (labels_at names labels)
shape names trees meta.Str = Str
shape names trees (meta.Struct align fields) = Struct align (fields_at names trees fields)
shape names trees (meta.Variant tag fields) = Variant (field_path_of names tag) (fields_at names trees fields)
shape names trees (meta.Array n item) = Array n (tree_at trees item)
shape names trees (meta.Sequence n item) = Sequence (field_path_or_here (field_path_of names n)) (tree_at trees item)

abbrev pub grown : List Text → List Ty → TypeMeta → List Ty
grown names trees t = trees ++ shape names trees t ∷ []

-- the trees of types, each by those before it
abbrev pub trees_from : List Text → List Ty → List TypeMeta → List Ty
trees_from names done [] = done
trees_from names done (t ∷ ts) = trees_from names (grown names done t) ts

abbrev pub trees : Table → List Ty
trees t = trees_from t.names [] t.types

abbrev pub tree : Table → ℕ → Ty
tree t n = tree_at (trees t) n

-- all numbers lie below this one
abbrev pub AreBelow : ℕ → List ℕ → Type 0
AreBelow n [] = Unit {0}
AreBelow n (x ∷ xs) = (x < n) × AreBelow n xs

-- fields of so many types
abbrev pub FieldsIn : ℕ → List FieldMeta → Type 0
FieldsIn n [] = Unit {0}
FieldsIn n (f ∷ fs) = (f.ty < n) × FieldsIn n fs

-- a type names only so many types
abbrev pub RefersIn : ℕ → TypeMeta → Type 0
RefersIn n (meta.Integer integer) = Unit {0}
RefersIn n (meta.Enum base labels) = base < n
RefersIn n meta.Str = Unit {0}
RefersIn n (meta.Struct align fields) = FieldsIn n fields
RefersIn n (meta.Variant tag fields) = FieldsIn n fields
RefersIn n (meta.Array count item) = item < n
RefersIn n (meta.Sequence count item) = item < n

abbrev pub IsWhole : Ty → Type 0
IsWhole (Whole i) = Unit {0}
IsWhole _ = ⊥

-- an enumeration is of an integer
abbrev pub IsBased : List Ty → TypeMeta → Type 0
IsBased trees (meta.Enum base labels) = IsWhole (tree_at trees base)
IsBased trees _ = Unit {0}

abbrev pub AreBased : List Ty → List TypeMeta → Type 0
AreBased trees [] = Unit {0}
AreBased trees (t ∷ ts) = IsBased trees t × AreBased trees ts

abbrev pub FieldNamesIn : ℕ → List FieldMeta → Type 0
FieldNamesIn n [] = Unit {0}
FieldNamesIn n (f ∷ fs) = (f.name < n) × FieldNamesIn n fs

abbrev pub LabelNamesIn : ℕ → List LabelMeta → Type 0
LabelNamesIn n [] = Unit {0}
LabelNamesIn n (l ∷ ls) = (l.name < n) × LabelNamesIn n ls

-- a type uses only so many names
abbrev pub NamesIn : ℕ → TypeMeta → Type 0
NamesIn n (meta.Integer integer) = Unit {0}
NamesIn n (meta.Enum base labels) = LabelNamesIn n labels
NamesIn n meta.Str = Unit {0}
NamesIn n (meta.Struct align fields) = FieldNamesIn n fields
NamesIn n (meta.Variant tag fields) = AreBelow n tag.words × FieldNamesIn n fields
NamesIn n (meta.Array count item) = Unit {0}
NamesIn n (meta.Sequence count item) = AreBelow n count.words

-- each type names only types before it, and names that are there
abbrev pub AreRanked : ℕ → ℕ → List TypeMeta → Type 0
AreRanked names k [] = Unit {0}
AreRanked names k (t ∷ ts) = NamesIn names t × RefersIn k t × AreRanked names (k + 1) ts

-- an integer has 1 to 64 bits, and an alignment is one of the powers of two up to 65,536, which are the numbers that divide that
abbrev pub IsSound : TypeMeta → Type 0
IsSound (meta.Integer integer) = (1 ≤ integer.size) × (integer.size ≤ 64) × (1 ≤ integer.align) × (65536 % integer.align ≡ 0)
IsSound (meta.Struct align fields) = (1 ≤ align) × (65536 % align ≡ 0)
IsSound _ = Unit {0}

abbrev pub AreSound : List TypeMeta → Type 0
AreSound [] = Unit {0}
AreSound (t ∷ ts) = IsSound t × AreSound ts

-- more names and types after those that were there
pub record Grows (old new : Table) : Type 0 where
  pub more_names : List Text
  pub more_types : List TypeMeta
  pub names : new.names ≡ old.names ++ more_names
  pub types : new.types ≡ old.types ++ more_types

-- what the numbers and indices of a table stand for, they stand for in a larger one
pub record Keeps (old new : Table) : Type 0 where
  pub names : (n : ℕ) → n < length old.names → name_at new.names n ≡ name_at old.names n
  pub types : (n : ℕ) → n < length old.types → tree new n ≡ tree old n
  pub more_names : length old.names ≤ length new.names
  pub more_types : length old.types ≤ length new.types

-- a table that stands for trees
pub record IsTable (table : Table) (type_sizes : List TypeSize) : Type 0 where
  pub few_names : length table.names < 2 ^ 32
  pub ranked : AreRanked (length table.names) 0 table.types
  pub sound : AreSound table.types
  pub based : AreBased (trees table) table.types
  pub known : type_sizes ≡ map type_size_of (trees table)
  pub fit : AreFit type_sizes

-- a table as `Table` makes them: each type names types and names that are there, enumerations are of integers, and all limits hold
abbrev pub IsSoundTable : Table → Type 0
IsSoundTable t = IsTable t (map type_size_of (trees t))
