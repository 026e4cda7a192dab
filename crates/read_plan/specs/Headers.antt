-- How the header of an event is read without keeping its fields: its numbers are read one after the other, and of these the id, the timestamp and the tag of a variant are kept (numbers, structures and variants are those of CTF 1.8, section 4, and the names those of section 6.1.1; which headers are read so is this project's own).
use Rattle.std.specs.Prelude.{◌≡◌, ℕ, ℤ, ◌≤◌, ◌%◌, ◌&&◌, ◌||◌, int_le, nat_le, Bool, false, List, [], ◌∷◌, ◌++◌, length, drop, Option, Some, None, Result, Ok, Err, codes, option_map, slice_get, if◌then◌else◌}
use Rattle.std.specs.List.{AllByRecursion}
use Rattle.std.specs.Int.{next_multiple_of}
use Rattle.type_table.specs.Names.{same_name}
use Rattle.type_table.specs.Table.{Table, name_at}
use Rattle.type_table.specs.declared.integer.Integer.{Integer}
use Rattle.type_table.specs.declared.meta.FieldMeta.{FieldMeta}
use Rattle.type_table.specs.declared.meta.LabelMeta.{LabelMeta}
use Rattle.type_table.specs.declared.meta.ScopeName.{ScopeName}
use Rattle.type_table.specs.declared.meta.TypeMeta.{TypeMeta}
use Rattle.type_table.specs.declared.meta.TypeMeta.TheVariants as meta
use Rattle.ctf_fields.specs.Choice.{first_named, labels_in}
use Rattle.ctf_fields.specs.Fields.{Scopes, number_of, or_else, same}
use Rattle.ctf_fields.specs.Leaves.{IsReadable, integer_read}
use Rattle.ctf_fields.specs.Named.{first_named as named_first, last_named}
use Rattle.ctf_fields.specs.Reading.{Reads, Got, Fails, integer_type, scope_read, then_read}
use Rattle.ctf_fields.specs.declared.error.FieldError.{FieldError}
use Rattle.ctf_fields.specs.declared.error.FieldError.TheVariants.{ShortContent, NoVariant}
use Rattle.ctf_fields.specs.declared.field.Field.{Field}
use Rattle.read_plan.specs.declared.header.TheConstants.{MAX_PLANNED}
use Rattle.read_plan.specs.declared.header.HeaderNumber.{HeaderNumber}
use Rattle.read_plan.specs.declared.header.HeaderNumbers.{HeaderNumbers}
use Rattle.read_plan.specs.declared.header.HeaderOption.{HeaderOption}
use Rattle.read_plan.specs.declared.header.HeaderPlan.{HeaderPlan}
use Rattle.read_plan.specs.declared.header.NumberRow.{NumberRow}

-- ---- reading by a plan

-- no number is read yet
abbrev pub no_numbers : HeaderNumbers
no_numbers = record { id = None; timestamp = None; tag = None }

-- with one more number: the last id and the last tag count, and the first timestamp
abbrev pub with_number : HeaderNumber → ℤ → HeaderNumbers → HeaderNumbers
with_number n z before = record {
  id = if n.is_id then Some (z, n.ty) else before.id;
  timestamp = if n.is_timestamp then or_else before.timestamp (Some (z, n.ty)) else before.timestamp;
  tag = if n.is_tag then Some z else before.tag;
}

-- what one number adds: nothing is read where its bits run out
abbrev pub number_by : HeaderNumber → HeaderNumbers → Option (ℤ × ℕ) → Reads HeaderNumbers
number_by n before None = Fails ShortContent
number_by n before (Some r) = Got (with_number n r.0 before) r.1

-- one number from a bit on, after those before it
abbrev pub number_read : List ℕ → ℕ → HeaderNumber → HeaderNumbers → ℕ → Reads HeaderNumbers
number_read bytes end n before at = number_by n before (integer_read n.integer bytes end at)

-- numbers, one after the other
abbrev pub numbers_read : List ℕ → ℕ → List HeaderNumber → HeaderNumbers → ℕ → Reads HeaderNumbers
numbers_read bytes end [] before at = Got before at
numbers_read bytes end (n ∷ ns) before at = then_read (number_read bytes end n before at) (numbers_read bytes end ns)

-- the numbers of a structure
abbrev pub row_read : List ℕ → ℕ → NumberRow → HeaderNumbers → ℕ → Reads HeaderNumbers
row_read bytes end row before at = numbers_read bytes end row.numbers before (next_multiple_of at row.align)

-- the structure of the first option that holds the tag
abbrev pub option_read : List ℕ → ℕ → List HeaderOption → ℤ → HeaderNumbers → ℕ → Reads HeaderNumbers
option_read bytes end [] tag before at = Fails NoVariant
option_read bytes end (o ∷ os) tag before at = if int_le o.low tag && int_le tag o.high then row_read bytes end o.row before at else option_read bytes end os tag before at

-- the structure that the tag chooses; there is none without a tag
abbrev pub option_by : List ℕ → ℕ → List HeaderOption → Option ℤ → HeaderNumbers → ℕ → Reads HeaderNumbers
option_by bytes end os None before at = Fails NoVariant
option_by bytes end os (Some tag) before at = option_read bytes end os tag before at

-- what stands behind the first numbers: nothing, or the structure that the tag chooses
abbrev pub behind_row : List ℕ → ℕ → Option (List HeaderOption) → HeaderNumbers → ℕ → Reads HeaderNumbers
behind_row bytes end None before at = Got before at
behind_row bytes end (Some os) before at = option_by bytes end os before.tag before at

-- the numbers of a header: those that stand first, and those of the structure that the tag chooses, if there is a variant
abbrev pub header_read : List ℕ → ℕ → HeaderPlan → ℕ → Reads HeaderNumbers
header_read bytes end plan at = then_read (row_read bytes end plan.first no_numbers at) (behind_row bytes end plan.options)

-- an answer that is what is read
abbrev pub as_answer : Reads HeaderNumbers → Result (HeaderNumbers × ℕ) FieldError
as_answer (Got told at) = Ok (told, at)
as_answer (Fails cause) = Err cause

-- ---- the plan of a header

-- fields are called so
abbrev pub is_id : Table → ℕ → Bool
is_id t name = same_name (codes "id") (name_at t.names name)

abbrev pub is_timestamp : Table → ℕ → Bool
is_timestamp t name = same_name (codes "timestamp") (name_at t.names name)

-- a field has the name that a tag gives, if there is one
abbrev pub is_tag : Table → Option ℕ → ℕ → Bool
is_tag t None name = false
is_tag t (Some tag) name = same t.names tag name

-- a field that is a number: how it lies, and what it is called
abbrev pub header_number : Table → Option ℕ → FieldMeta → Integer → HeaderNumber
header_number t tag f i = record { integer = i; ty = f.ty; is_id = is_id t f.name; is_timestamp = is_timestamp t f.name; is_tag = is_tag t tag f.name }

-- a number before others, where the field is one
abbrev pub number_before : Table → Option ℕ → FieldMeta → Option Integer → List HeaderNumber → List HeaderNumber
number_before t tag f None ns = []
number_before t tag f (Some i) ns = header_number t tag f i ∷ ns

-- the numbers that fields begin with
abbrev pub leading_numbers : Table → Option ℕ → List FieldMeta → List HeaderNumber
leading_numbers t tag [] = []
leading_numbers t tag (f ∷ fs) = number_before t tag f (integer_type t f.ty) (leading_numbers t tag fs)

-- the fields behind them
abbrev pub behind_numbers : Table → List FieldMeta → List FieldMeta
behind_numbers t fs = drop (length (leading_numbers t None fs)) fs

-- a structure of numbers alone
abbrev pub row_by : Table → Option TypeMeta → Option NumberRow
row_by t (Some (meta.Struct align fs)) = if nat_le (length fs) MAX_PLANNED && nat_le (length fs) (length (leading_numbers t None fs)) then Some (record { align = align; numbers = leading_numbers t None fs }) else None
row_by t _ = None

-- what a label chooses: nothing where it names no field; no plan where that isn't a structure of numbers, or is called as what is looked for
abbrev pub option_of : Table → LabelMeta → Option FieldMeta → Option (List HeaderOption)
option_of t label None = Some []
option_of t label (Some f) = if is_id t f.name || is_timestamp t f.name then None else option_map (λ row. record { low = label.low; high = label.high; row = row } ∷ []) (row_by t (slice_get t.types f.ty))

-- options before others; none where either has no plan
abbrev pub both : Option (List HeaderOption) → Option (List HeaderOption) → Option (List HeaderOption)
both None rest = None
both (Some os) None = None
both (Some os) (Some rest) = Some (os ++ rest)

-- what the labels of a tag's enumeration choose, one after the other
abbrev pub options_of : Table → List FieldMeta → List LabelMeta → Option (List HeaderOption)
options_of t fs [] = Some []
options_of t fs (label ∷ labels) = both (option_of t label (first_named t.names label.name fs)) (options_of t fs labels)

-- the type of the last tag among numbers
abbrev pub tag_type : List HeaderNumber → Option ℕ
tag_type [] = None
tag_type (n ∷ ns) = or_else (tag_type ns) (if n.is_tag then Some n.ty else None)

-- numbers, and behind them a variant whose tag is one of them
abbrev pub planned_options : Table → ℕ → List HeaderNumber → List FieldMeta → List LabelMeta → Option HeaderPlan
planned_options t align ns fs labels = if nat_le (length fs) MAX_PLANNED && nat_le (length labels) MAX_PLANNED then option_map (λ os. record { first = record { align = align; numbers = ns }; options = Some os }) (options_of t fs labels) else None

-- by the type of the tag, if a number before the variant is it: its labels choose
abbrev pub planned_tag : Table → ℕ → List HeaderNumber → List FieldMeta → Option ℕ → Option HeaderPlan
planned_tag t align ns fs None = None
planned_tag t align ns fs (Some ty) = planned_options t align ns fs (labels_in (slice_get t.types ty))

-- by the variant's tag: a plan reads one whose path is a single name, which names no scope
abbrev pub planned_variant : Table → ℕ → List FieldMeta → Option ScopeName → List ℕ → List FieldMeta → Option HeaderPlan
planned_variant t align fs None (tag ∷ []) options = planned_tag t align (leading_numbers t (Some tag) fs) options (tag_type (leading_numbers t (Some tag) fs))
planned_variant t align fs _ _ options = None

-- by the field behind the numbers: a variant that isn't itself called as what is looked for
abbrev pub planned_last : Table → ℕ → List FieldMeta → ℕ → Option TypeMeta → Option HeaderPlan
planned_last t align fs name (Some (meta.Variant tag options)) = if is_id t name || is_timestamp t name then None else planned_variant t align fs tag.scope tag.words options
planned_last t align fs name _ = None

-- by the fields behind the numbers: none, or a variant alone
abbrev pub planned_behind : Table → ℕ → List FieldMeta → List FieldMeta → Option HeaderPlan
planned_behind t align fs [] = Some (record { first = record { align = align; numbers = leading_numbers t None fs }; options = None })
planned_behind t align fs (last ∷ []) = planned_last t align fs last.name (slice_get t.types last.ty)
planned_behind t align fs _ = None

-- by the type of the header: a structure of a few fields
abbrev pub planned_by : Table → Option TypeMeta → Option HeaderPlan
planned_by t (Some (meta.Struct align fs)) = if nat_le (length fs) MAX_PLANNED then planned_behind t align fs (behind_numbers t fs) else None
planned_by t _ = None

-- how the header of the type at an index is read by a plan, where there is one
abbrev pub header_plan : Table → ℕ → Option HeaderPlan
header_plan t ty = planned_by t (slice_get t.types ty)

-- ---- what a plan is good for

-- what was read by a plan ends where the header ends, and tells its last id and its first timestamp; or it fails as the header does
abbrev pub Tells : List (List ℕ) → Reads Field → Reads HeaderNumbers → Type 0
Tells names (Got f bit) (Got told to) = (to ≡ bit) × (told.id ≡ number_of (last_named names (codes "id") (Some f))) × (told.timestamp ≡ number_of (named_first names (codes "timestamp") (Some f)))
Tells names (Fails cause) (Fails other) = other ≡ cause
Tells names (Got f bit) (Fails other) = ⊥
Tells names (Fails cause) (Got told to) = ⊥

-- by the plan a header of this type is read, whatever the bits and the scopes are
abbrev pub IsPlanFor : Table → ℕ → HeaderPlan → Type 0
IsPlanFor t ty plan = (bytes : List ℕ) (end : ℕ) (scopes : Scopes) (at : ℕ) → Tells t.names (scope_read (record { table = t; bytes = bytes; end = end; scopes = scopes }) ty at) (header_read bytes end plan at)

-- numbers and alignments that can be read
abbrev pub AreReadable : List HeaderNumber → Type 0
AreReadable ns = AllByRecursion (λ n. IsReadable n.integer) ns

-- a structure whose alignment divides 65536, of numbers that can be read
pub record IsReadableRow (row : NumberRow) : Type 0 where
  pub align : 1 ≤ row.align
  pub within : 65536 % row.align ≡ 0
  pub numbers : AreReadable row.numbers

-- structures that can be read, if there is a variant
abbrev pub AreReadableOptions : Option (List HeaderOption) → Type 0
AreReadableOptions None = Unit {0}
AreReadableOptions (Some os) = AllByRecursion (λ o. IsReadableRow o.row) os

-- a plan that can be read by: its first structure, and those that the tag chooses
pub record IsReadablePlan (plan : HeaderPlan) : Type 0 where
  pub first : IsReadableRow plan.first
  pub options : AreReadableOptions plan.options
