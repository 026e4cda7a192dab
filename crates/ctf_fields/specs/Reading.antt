-- What is read of a type from a bit on, and the bit after it, or the first cause for which it can't be (CTF 1.8, section 4; the alignment of an empty list is this project's own).
use Rattle.std.specs.Prelude.{◌≡◌, ℕ, zero, suc, ℤ, pos, nat_le, nat_lt, List, [], ◌∷◌, ◌++◌, Option, Some, None, Result, Ok, Err, length, option_map, slice_get, if◌then◌else◌}
pub use Rattle.trace_types.specs.declared.limits.TheConstants.{MAX_ITEMS, MAX_TYPE_DEPTH}
use Rattle.std.specs.Int.{next_multiple_of}
use Rattle.type_table.specs.Table.{Table, tree}
use Rattle.type_table.specs.Types.{alignment}
use Rattle.type_table.specs.declared.integer.Integer.{Integer}
use Rattle.type_table.specs.declared.meta.FieldMeta.{FieldMeta}
use Rattle.type_table.specs.declared.meta.Reference.{Reference}
use Rattle.type_table.specs.declared.meta.TypeMeta.{TypeMeta}
use Rattle.type_table.specs.declared.meta.TypeMeta.TheVariants as meta
use Rattle.ctf_fields.specs.declared.open_struct.OpenStruct.{OpenStruct}
use Rattle.ctf_fields.specs.declared.error.FieldError.{FieldError}
use Rattle.ctf_fields.specs.declared.error.FieldError.TheVariants.{ShortContent, NoVariant, TooLong, OutOfMemory}
use Rattle.ctf_fields.specs.declared.field.Field.{Field}
use Rattle.ctf_fields.specs.declared.field.Field.TheVariants as field
use Rattle.ctf_fields.specs.Choice.{chosen}
use Rattle.ctf_fields.specs.Fields.{Scopes, field_of, fields_of, number_of, with_member}
use Rattle.ctf_fields.specs.Leaves.{integer_read, text_read}

-- a value that was read, and the bit after it; or why it couldn't be
pub data Reads (A : Type 0) : Type 0 where
  Got : A → ℕ → Reads A
  Fails : FieldError → Reads A

abbrev pub then_read : {A B : Type 0} → Reads A → (A → ℕ → Reads B) → Reads B
then_read (Got a bit) next = next a bit
then_read (Fails cause) next = Fails cause

abbrev pub as_read : {A B : Type 0} → (A → B) → Reads A → Reads B
as_read f (Got a bit) = Got (f a) bit
as_read f (Fails cause) = Fails cause

-- a call answers what is read; lack of memory is the one free answer
abbrev pub Gives : {A : Type 0} → Reads A → Result (A × ℕ) FieldError → Type 0
Gives reads (Ok r) = reads ≡ Got r.0 r.1
Gives reads (Err ShortContent) = reads ≡ Fails ShortContent
Gives reads (Err NoVariant) = reads ≡ Fails NoVariant
Gives reads (Err TooLong) = reads ≡ Fails TooLong
Gives reads (Err OutOfMemory) = Unit {0}

-- a call answers the bit after what is read, and leaves this value
abbrev pub GivesWith : {A : Type 0} → Reads A → A → Result ℕ FieldError → Type 0
GivesWith reads a (Ok bit) = reads ≡ Got a bit
GivesWith reads a (Err ShortContent) = reads ≡ Fails ShortContent
GivesWith reads a (Err NoVariant) = reads ≡ Fails NoVariant
GivesWith reads a (Err TooLong) = reads ≡ Fails TooLong
GivesWith reads a (Err OutOfMemory) = Unit {0}

-- what fields are read from: types, bits up to an end, and the scopes that were read before
pub record SourceModel : Type 0 where
  pub table : Table
  pub bytes : List ℕ
  pub end : ℕ
  pub scopes : Scopes

-- how the types within a type are read: the name of the field that it is, its index, the structures around it, and its first bit
abbrev pub Inner : Type 0
Inner = Option ℕ → ℕ → List OpenStruct → ℕ → Reads Field

-- ---- integers and strings

abbrev pub leaf : {A : Type 0} → (A → Field) → Option (A × ℕ) → Reads Field
leaf f None = Fails ShortContent
leaf f (Some r) = Got (f r.0) r.1

-- the integer of a type, and of the type of an enumeration
abbrev pub integer_of : Option TypeMeta → Option Integer
integer_of (Some (meta.Integer integer)) = Some integer
integer_of _ = None

-- the integer that the type at an index is, or that it is an enumeration of
abbrev pub integer_type : Table → ℕ → Option Integer
integer_type t ty = by (slice_get t.types ty)
  where
    by : Option TypeMeta → Option Integer
    by (Some (meta.Enum base labels)) = integer_of (slice_get t.types base)
    by other = integer_of other

-- an integer, or an enumeration, whose own type is at this index
abbrev pub read_number : SourceModel → ℕ → Option Integer → ℕ → Reads Field
read_number from ty None at = Fails ShortContent
read_number from ty (Some i) at = leaf (field.Int ty) (integer_read i from.bytes from.end at)

-- ---- structures, variants and lists, where the types within are read so

-- the fields of the innermost structure, one after the other
abbrev pub read_member : Inner → FieldMeta → List OpenStruct → ℕ → Reads (List OpenStruct)
read_member inner f open_structs at = as_read (λ g. with_member (record { name = f.name; field = g }) open_structs) (inner (Some f.name) f.ty open_structs at)

abbrev pub read_members : Inner → List FieldMeta → List OpenStruct → ℕ → Reads (List OpenStruct)
read_members inner [] open_structs at = Got open_structs at
read_members inner (f ∷ fs) open_structs at = then_read (read_member inner f open_structs at) (read_members inner fs)

abbrev pub read_struct : Inner → Option ℕ → ℕ → List FieldMeta → List OpenStruct → ℕ → Reads Field
read_struct inner name align fs open_structs at =
    as_read (λ whole. field.Struct (fields_of whole)) (read_members inner fs (record { name = name; fields = [] } ∷ open_structs) (next_multiple_of at align))

abbrev pub read_choice : Inner → Option FieldMeta → List OpenStruct → ℕ → Reads Field
read_choice inner None open_structs at = Fails NoVariant
read_choice inner (Some f) open_structs at = as_read (field.Choice f.name) (inner None f.ty open_structs at)

-- so many of a type, one after the other, after those that were read
abbrev pub read_item : Inner → ℕ → List OpenStruct → List Field → ℕ → Reads (List Field)
read_item inner ty open_structs done at = as_read (λ g. done ++ g ∷ []) (inner None ty open_structs at)

abbrev pub read_items : Inner → ℕ → List OpenStruct → ℕ → List Field → ℕ → Reads (List Field)
read_items inner ty open_structs zero done at = Got done at
read_items inner ty open_structs (suc n) done at = then_read (read_item inner ty open_structs done at) (read_items inner ty open_structs n)

-- an integer at each bit
abbrev pub numbers : SourceModel → Integer → Inner
numbers from i = λ name ty open_structs at. read_number from ty (Some i) at

-- a structure with one more field, which is read so
abbrev pub member_read : Reads Field → FieldMeta → OpenStruct → Reads OpenStruct
member_read reads f a = as_read (λ g. record { name = a.name; fields = a.fields ++ record { name = f.name; field = g } ∷ [] }) reads

-- what a type is aligned to
abbrev pub align_at : Table → ℕ → ℕ
align_at t ty = if nat_lt ty (length t.types) then alignment (tree t ty) else 8

-- a list is aligned as its items are, also where it has none
abbrev pub read_list : Inner → Table → ℕ → ℕ → List OpenStruct → ℕ → Reads Field
read_list inner t count ty open_structs at = as_read (field.List ty) (read_items inner ty open_structs count [] (next_multiple_of at (align_at t ty)))

-- an array of integers: the integer, how many, and the index of their type
abbrev pub array_by : Table → Option TypeMeta → Option (Integer × ℕ × ℕ)
array_by t (Some (meta.Array count item)) = option_map (λ i. (i, count, item)) (integer_type t item)
array_by t _ = None

abbrev pub length_of : Option (ℤ × ℕ) → Option ℕ
length_of (Some (pos n, ty)) = if nat_le n MAX_ITEMS then Some n else None
length_of _ = None

abbrev pub read_sequence : Inner → Table → Option ℕ → ℕ → List OpenStruct → ℕ → Reads Field
read_sequence inner t None ty open_structs at = Fails TooLong
read_sequence inner t (Some count) ty open_structs at = read_list inner t count ty open_structs at

-- ---- types

abbrev pub number_at : SourceModel → List OpenStruct → Reference → Option (ℤ × ℕ)
number_at from open_structs field_path = number_of (field_of from.table.names from.scopes open_structs field_path)

unfoldable pub read_by : Inner → SourceModel → Option ℕ → ℕ → Option TypeMeta → List OpenStruct → ℕ → Reads Field
read_by inner from name ty None open_structs at = Fails ShortContent
read_by inner from name ty (Some (meta.Integer integer)) open_structs at = read_number from ty (Some integer) at
read_by inner from name ty (Some (meta.Enum base labels)) open_structs at = read_number from ty (integer_of (slice_get from.table.types base)) at
read_by inner from name ty (Some meta.Str) open_structs at = leaf field.Text (text_read from.bytes from.end at)
read_by inner from name ty (Some (meta.Struct align fs)) open_structs at = read_struct inner name align fs open_structs at
read_by inner from name ty (Some (meta.Variant tag fs)) open_structs at = read_choice inner (chosen from.table (number_at from open_structs tag) fs) open_structs at
read_by inner from name ty (Some (meta.Array count item)) open_structs at = read_list inner from.table count item open_structs at
read_by inner from name ty (Some (meta.Sequence count item)) open_structs at = read_sequence inner from.table (length_of (number_at from open_structs count)) item open_structs at

-- the type at an index, of which none goes deeper than so many
unfoldable pub read : ℕ → SourceModel → Option ℕ → ℕ → List OpenStruct → ℕ → Reads Field
read zero from name ty open_structs at = Fails ShortContent
read (suc depth) from name ty open_structs at = read_by (read depth from) from name ty (slice_get from.table.types ty) open_structs at

-- the type of a scope
abbrev pub scope_read : SourceModel → ℕ → ℕ → Reads Field
scope_read from ty at = read MAX_TYPE_DEPTH from None ty [] at
