-- Types as trees, with what they take and how deep they go (CTF 1.8, sections 4.1 and 4.2; the limits are this project's own).
use Rattle.std.specs.Prelude.{ℕ, ℤ, suc, ◌+◌, ◌*◌, max, min, Bool, true, false, ◌&&◌, ◌||◌, nat_le, List, [], ◌∷◌, Option}
pub use Rattle.trace_types.specs.declared.limits.TheConstants.{MAX_TYPE_DEPTH}
use Rattle.type_table.specs.declared.integer.Integer.{Integer}
use Rattle.type_table.specs.declared.meta.ScopeName.{ScopeName}

abbrev pub Text : Type 0
Text = List ℕ

pub record Label : Type 0 where
  pub name : Text
  pub low : ℤ
  pub high : ℤ

-- a field path to a field: the scope that it begins with, if any, and the names after it
pub record FieldPath : Type 0 where
  pub scope : Option ScopeName
  pub names : List Text

-- a variant without a field path to its tag can be named, and isn't a field's type
mutual
  pub data Ty : Type 0 where
    Whole : Integer → Ty
    Named : Integer → List Label → Ty
    Str : Ty
    Struct : ℕ → Fields → Ty
    Variant : Option FieldPath → Fields → Ty
    Array : ℕ → Ty → Ty
    Sequence : FieldPath → Ty → Ty

  pub data Fields : Type 0 where
    No : Fields
    Field : Text → Ty → Fields → Fields

abbrev mutual
  -- the fewest bits that a value takes: those of a structure are its fields', of a variant the fewest of a field, and a sequence may be empty
  pub least_bits : Ty → ℕ
  least_bits (Whole i) = i.size
  least_bits (Named i labels) = i.size
  least_bits Str = 8
  least_bits (Struct align fields) = least_of_all fields
  least_bits (Variant tag No) = 0
  least_bits (Variant tag (Field name ty fields)) = least_of_one (least_bits ty) fields
  least_bits (Array length item) = length * least_bits item
  least_bits (Sequence length item) = 0

  pub least_of_all : Fields → ℕ
  least_of_all No = 0
  least_of_all (Field name ty fields) = least_bits ty + least_of_all fields

  pub least_of_one : ℕ → Fields → ℕ
  least_of_one least No = least
  least_of_one least (Field name ty fields) = least_of_one (min least (least_bits ty)) fields

abbrev mutual
  -- how many types deep a value goes
  pub depth : Ty → ℕ
  depth (Whole i) = 1
  depth (Named i labels) = 1
  depth Str = 1
  depth (Struct align fields) = suc (depth_of_all fields)
  depth (Variant tag fields) = suc (depth_of_all fields)
  depth (Array length item) = suc (depth item)
  depth (Sequence length item) = suc (depth item)

  pub depth_of_all : Fields → ℕ
  depth_of_all No = 0
  depth_of_all (Field name ty fields) = max (depth ty) (depth_of_all fields)

abbrev mutual
  -- how many types stand in a type, itself among them, each as often as it is named
  pub nodes : Ty → ℕ
  nodes (Whole i) = 1
  nodes (Named i labels) = 1
  nodes Str = 1
  nodes (Struct align fields) = suc (nodes_of_all fields)
  nodes (Variant tag fields) = suc (nodes_of_all fields)
  nodes (Array length item) = suc (nodes item)
  nodes (Sequence length item) = suc (nodes item)

  pub nodes_of_all : Fields → ℕ
  nodes_of_all No = 0
  nodes_of_all (Field name ty fields) = nodes ty + nodes_of_all fields

abbrev mutual
  -- whether a variant or a sequence stands in a type, whose tag or length a field path leads to
  pub has_paths : Ty → Bool
  has_paths (Whole i) = false
  has_paths (Named i labels) = false
  has_paths Str = false
  has_paths (Struct align fields) = any_has_paths fields
  has_paths (Variant tag fields) = true
  has_paths (Array length item) = has_paths item
  has_paths (Sequence length item) = true

  pub any_has_paths : Fields → Bool
  any_has_paths No = false
  any_has_paths (Field name ty fields) = has_paths ty || any_has_paths fields

-- to how many bits a value is aligned; a variant tells nothing
abbrev pub alignment : Ty → ℕ
alignment (Whole i) = i.align
alignment (Named i labels) = i.align
alignment Str = 8
alignment (Struct align fields) = align
alignment (Variant tag fields) = 1
alignment (Array length item) = alignment item
alignment (Sequence length item) = alignment item

-- how many types a type may consist of, each as often as it is named
abbrev pub MAX_NODES : ℕ
MAX_NODES = 65536

abbrev pub fits : Ty → Bool
fits ty = nat_le (depth ty) MAX_TYPE_DEPTH && nat_le (nodes ty) MAX_NODES

-- the fields by their names, in order
abbrev pub fields_in : List (Text × Ty) → Fields
fields_in [] = No
fields_in (f ∷ fs) = Field f.0 f.1 (fields_in fs)

-- the greatest alignment of a field
abbrev pub widest : Fields → ℕ
widest No = 1
widest (Field name ty fields) = max (alignment ty) (widest fields)
