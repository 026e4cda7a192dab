-- Where names lead from a type on, and what a tag or a length may lead to (CTF 1.8, section 7.3.2).
use Rattle.std.specs.Prelude.{Bool, true, false, not, List, [], ◌∷◌, Option, Some, None}
use Rattle.type_scope.specs.declared.field_path.PathUse.{PathUse}
use Rattle.type_scope.specs.declared.field_path.PathUse.TheVariants.{Tag, Length}
use Rattle.type_scope.specs.TypeScopes.{Frame}
use Rattle.type_table.specs.FieldPaths as walk
use Rattle.type_table.specs.FieldPaths.{Walk}
pub use Rattle.type_table.specs.FieldPaths.{or_else}
use Rattle.type_table.specs.Names.{same_name}
use Rattle.type_table.specs.Types.{Text, Ty, Fields, Whole, Named, Struct, No, Field}

-- a tag is an enumeration, and a length an unsigned integer
abbrev pub suits : PathUse → Ty → Bool
suits Tag (Named i labels) = true
suits Length (Whole i) = not i.signed
suits _ _ = false

abbrev pub suits_if_any : PathUse → Option Ty → Bool
suits_if_any path_use None = false
suits_if_any path_use (Some ty) = suits path_use ty

-- fields with their names, in order
abbrev pub members_in : Fields → List (Text × Ty)
members_in No = []
members_in (Field name ty fields) = (name, ty) ∷ members_in fields

-- the members of a structure
abbrev pub members_of : Ty → List (Text × Ty)
members_of (Struct align fields) = members_in fields
members_of _ = []

-- what is being read inside is a field of this name
abbrev pub is_inner : Text → Option Text → Bool
is_inner name None = false
is_inner name (Some inner) = same_name name inner

-- the walk over types and structures that are being read; a variant has no members
abbrev pub types : Walk Text (Text × Ty) Ty Frame
types = record { members = members_of; is_called = λ name f. same_name name f.0; value = λ f. f.1; is_struct = λ f. f.is_struct; read = λ f. f.fields; is_entered = λ name f inside. is_inner name f.inner }

-- the nearest field of a name, which is the last
abbrev pub nearest_in : Text → Fields → Option Ty
nearest_in name fields = walk.nearest types name (members_in fields)

-- the field of a name of a structure
abbrev pub member : Text → Option Ty → Option Ty
member name ty = walk.member types name ty

-- each further name is that of a field of the structure before
abbrev pub follow : Option Ty → List Text → Option Ty
follow ty names = walk.follow types ty names
