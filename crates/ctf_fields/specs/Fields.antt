-- Where the field path of a tag or a length leads among fields that were read (CTF 1.8, section 7.3.2). Names are numbers in a list of names.
use Rattle.std.specs.Prelude.{ℕ, ℤ, Bool, true, false, List, [], ◌∷◌, ◌++◌, Option, Some, None, reverse}
use Rattle.type_table.specs.FieldPaths as walk
use Rattle.type_table.specs.FieldPaths.{Walk}
pub use Rattle.type_table.specs.FieldPaths.{or_else}
use Rattle.type_table.specs.Names.{same_name}
use Rattle.type_table.specs.Table.{name_at}
use Rattle.type_table.specs.Types.{Text}
use Rattle.type_table.specs.declared.meta.Reference.{Reference}
use Rattle.type_table.specs.declared.meta.ScopeName.{ScopeName}
use Rattle.type_table.specs.declared.per_scope.PerScope.{PerScope}
use Rattle.type_table.specs.PerScope.{of_scope}
use Rattle.ctf_fields.specs.declared.open_struct.OpenStruct.{OpenStruct}
use Rattle.ctf_fields.specs.declared.field.Field.{Field, out-Field}
use Rattle.ctf_fields.specs.declared.field.Field.TheOpen.{Field-F}
use Rattle.ctf_fields.specs.declared.field.Member.{Member}

-- the fields of the scopes that were read before
abbrev pub Scopes : Type 0
Scopes = PerScope (Option Field)

-- names of these numbers count as one
abbrev pub same : List Text → ℕ → ℕ → Bool
same names a b = same_name (name_at names a) (name_at names b)

-- the members of a structure
abbrev pub members_of : Field-F Field Member → List Member
members_of (Field-F.Struct ms) = ms
members_of _ = []

-- the structure inside the others is a field of this name of the one around it
abbrev pub is_entered : List Text → ℕ → List OpenStruct → Bool
is_entered names name [] = false
is_entered names name (a ∷ more) = by a.name
  where
    by : Option ℕ → Bool
    by None = false
    by (Some inner) = same names name inner

-- the walk over fields and structures that are being read
abbrev pub fields_by : List Text → Walk ℕ Member Field OpenStruct
fields_by names = record { members = λ f. members_of (out-Field f); is_called = λ name m. same names name m.name; value = λ m. m.field; is_struct = λ a. true; read = λ a. a.fields; is_entered = λ name a inside. is_entered names name inside }

-- the nearest field of a name, which is the last
abbrev pub nearest : List Text → ℕ → List Member → Option Field
nearest names name ms = walk.nearest (fields_by names) name ms

-- the field of a name of a structure
abbrev pub member_of : List Text → ℕ → Field-F Field Member → Option Field
member_of names name f = nearest names name (members_of f)

-- the same, where there may be no field
abbrev pub member : List Text → ℕ → Option Field → Option Field
member names name f = walk.member (fields_by names) name f

-- each further name is that of a field of the structure before
abbrev pub follow : List Text → Option Field → List ℕ → Option Field
follow names f words = walk.follow (fields_by names) f words

-- the field of a name of the innermost structure that has one
abbrev pub from_inside : List Text → ℕ → List OpenStruct → Option Field
from_inside names name open_structs = walk.from_inside (fields_by names) name open_structs

-- a field path from the innermost structure outward
abbrev pub from_here : List Text → List OpenStruct → List ℕ → Option Field
from_here names open_structs words = walk.from_here (fields_by names) open_structs words

-- a field path from the outermost structure inward, through those that are being read
abbrev pub from_outside : List Text → List OpenStruct → List ℕ → Option Field
from_outside names open_structs words = walk.from_outside (fields_by names) open_structs words

-- the fields that the innermost structure has so far, and with one more; the structures around it
abbrev pub fields_of : List OpenStruct → List Member
fields_of [] = []
fields_of (a ∷ more) = a.fields

abbrev pub with_member : Member → List OpenStruct → List OpenStruct
with_member m [] = []
with_member m (a ∷ more) = record { name = a.name; fields = a.fields ++ m ∷ [] } ∷ more

abbrev pub outer : List OpenStruct → List OpenStruct
outer [] = []
outer (a ∷ more) = more

-- a field path into a scope: into its field, where it was read before; else it is the scope that is being read
abbrev pub from_scope : List Text → Option Field → List OpenStruct → List ℕ → Option Field
from_scope names (Some f) open_structs words = follow names (Some f) words
from_scope names None open_structs words = from_outside names (reverse open_structs) words

-- where a field path leads, with the structures that are being read, the innermost first
abbrev pub field_by : List Text → Scopes → List OpenStruct → Option ScopeName → List ℕ → Option Field
field_by names scopes open_structs None words = from_here names open_structs words
field_by names scopes open_structs (Some scope) words = from_scope names (of_scope scope scopes) open_structs words

abbrev pub field_of : List Text → Scopes → List OpenStruct → Reference → Option Field
field_of names scopes open_structs field_path = field_by names scopes open_structs field_path.scope field_path.words

-- a number with the index of its type
abbrev pub number_in : Field-F Field Member → Option (ℤ × ℕ)
number_in (Field-F.Int ty value) = Some (value, ty)
number_in _ = None

abbrev pub number_of : Option Field → Option (ℤ × ℕ)
number_of None = None
number_of (Some f) = number_in (out-Field f)
