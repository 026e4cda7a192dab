-- Events whose fields are numbers and arrays of numbers, all at places that are known beforehand, so that what their kinds need is read from the bits alone (this project's own).
use Rattle.std.specs.Prelude.{◌≡◌, ℕ, zero, suc, ℤ, ◌+◌, ◌*◌, ◌%◌, ◌≤◌, ◌==◌, ◌&&◌, nat_eq, nat_le, nat_lt, Bool, true, false, List, [], ◌∷◌, ◌++◌, length, map, take, Option, Some, None, option_map, slice_get, unwrap_or, if◌then◌else◌}
use Rattle.std.specs.Int.{w128, cast_unsigned}
use Rattle.std.specs.List.{AllByRecursion, find}
use Rattle.std.specs.Option.{option_and_then}
use Rattle.type_table.specs.Names.{same_name}
use Rattle.type_table.specs.Table.{Table, name_at}
use Rattle.type_table.specs.declared.declared.EventParts.{EventParts}
use Rattle.type_table.specs.declared.integer.Integer.{Integer}
use Rattle.type_table.specs.declared.meta.FieldMeta.{FieldMeta}
use Rattle.type_table.specs.declared.meta.TypeMeta.{TypeMeta}
use Rattle.type_table.specs.declared.meta.TypeMeta.TheVariants as meta
use Rattle.trace_types.specs.Padding.{name_in}
use Rattle.trace_types.specs.declared.event_kind.EventKind.{EventKind}
use Rattle.ctf_fields.specs.Leaves.{IsReadable, IsSpan, integer_read}
use Rattle.ctf_fields.specs.Reading.{align_at, integer_type}
use Rattle.ctf_fields.specs.declared.field.Field.{Field}
use Rattle.ctf_fields.specs.declared.field.Field.TheVariants as field
use Rattle.ctf_fields.specs.declared.field.Member.{Member}
use Rattle.read_plan.specs.FixedSizes.{within_byte}
use Rattle.kernel_layout.specs.Needed.{byte_of}
use Rattle.kernel_layout.specs.Skips.{kind_at, needs_fields}
use Rattle.kernel_layout.specs.Sought.{sought_of, text_of}
use Rattle.kernel_layout.specs.declared.plan.TheConstants.{MAX_PLANNED_FIELDS}
use Rattle.kernel_layout.specs.declared.plan.EventPlan.{EventPlan}
use Rattle.kernel_layout.specs.declared.plan.FieldForm.{FieldForm}
use Rattle.kernel_layout.specs.declared.plan.FieldForm.TheVariants as form
use Rattle.kernel_layout.specs.declared.plan.PlannedField.{PlannedField}
use Rattle.kernel_layout.specs.declared.sought.Sought.{Sought}
use Rattle.kernel_layout.specs.declared.sought.Sought.TheVariants as sought

-- ---- how fields lie

-- an integer of whole bytes, which begins where what stands before it ends
abbrev pub whole_integer : Option Integer → Option Integer
whole_integer None = None
whole_integer (Some i) = if nat_eq (i.size % 8) 0 && within_byte i.align then Some i else None

abbrev pub numbers_of : Table → ℕ → ℕ → Option FieldForm
numbers_of t count item = if within_byte (align_at t item) then option_map (λ i. form.Numbers i count) (whole_integer (integer_type t item)) else None

-- a number, or an array of numbers
abbrev pub form_by : Table → ℕ → Option TypeMeta → Option FieldForm
form_by t ty (Some (meta.Array count item)) = numbers_of t count item
form_by t ty _ = option_map form.Number (whole_integer (integer_type t ty))

abbrev pub form_of : Table → ℕ → Option FieldForm
form_of t ty = form_by t ty (slice_get t.types ty)

-- the integer that it is of, and how many bits it takes
abbrev pub integer_in : FieldForm → Integer
integer_in (form.Number i) = i
integer_in (form.Numbers i count) = i

abbrev pub form_bits : FieldForm → ℕ
form_bits (form.Number i) = i.size
form_bits (form.Numbers i count) = count * i.size

-- ---- the plan of an event

-- so many bits, where 64 bits hold the number
abbrev pub within_64 : ℕ → Option ℕ
within_64 n = if nat_lt n 18446744073709551616 then Some n else None

-- the end of a field that begins behind so many bits
abbrev pub end_behind : ℕ → FieldForm → Option ℕ
end_behind bits f = option_and_then (λ n. within_64 (bits + n)) (within_64 (form_bits f))

-- an address is not read by a plan
abbrev pub is_address : Option Sought → Bool
is_address (Some sought.Saddr) = true
is_address (Some sought.Daddr) = true
is_address _ = false

-- a field that begins behind so many bits, with its end
abbrev pub placed : Option Sought → ℕ → Option FieldForm → Option (FieldForm × ℕ)
placed s bits None = None
placed s bits (Some f) = if is_address s then None else option_map (λ end. (f, end)) (end_behind bits f)

-- only what is sought is kept
abbrev pub planned : Option Sought → ℕ → FieldForm → List PlannedField
planned None offset f = []
planned (Some s) offset f = record { sought = s; offset = offset; form = f } ∷ []

abbrev pub with_field : EventPlan → Option Sought → FieldForm × ℕ → EventPlan
with_field done s p = record { ty = done.ty; bits = p.1; fields = done.fields ++ planned s done.bits p.0 }

-- the name that a field's counts as
abbrev pub sought_at : Table → FieldMeta → Option Sought
sought_at t f = sought_of (name_at t.names f.name)

-- with more fields, one after the other
abbrev pub plan_from : Table → EventPlan → List FieldMeta → Option EventPlan
plan_from t done [] = Some done
plan_from t done (f ∷ fs) = option_and_then (λ p. plan_from t (with_field done (sought_at t f) p) fs) (placed (sought_at t f) done.bits (form_of t f.ty))

abbrev pub no_fields : ℕ → EventPlan
no_fields ty = record { ty = ty; bits = 0; fields = [] }

-- there are bits to read
abbrev pub with_bits : EventPlan → Option EventPlan
with_bits plan = if nat_eq plan.bits 0 then None else Some plan

-- a structure of a few such fields
abbrev pub plan_by : Table → ℕ → Option TypeMeta → Option EventPlan
plan_by t ty (Some (meta.Struct align fs)) = if nat_le (length fs) MAX_PLANNED_FIELDS && within_byte align then option_and_then with_bits (plan_from t (no_fields ty) fs) else None
plan_by t ty _ = None

abbrev pub plan_of_type : Table → ℕ → Option EventPlan
plan_of_type t ty = plan_by t ty (slice_get t.types ty)

-- of an event that is told by its fields
abbrev pub plan_of : Table → List EventKind → EventParts → Option EventPlan
plan_of t kinds parts = if needs_fields (kind_at kinds parts.name) then option_and_then (plan_of_type t) parts.fields else None

abbrev pub plan_at : List (Option EventPlan) → ℕ → Option EventPlan
plan_at plans event = unwrap_or (slice_get plans event) None

-- ---- the fields that the bits from here hold, all at their places

-- a number that was read as a field; where it can't be read, it is no number
abbrev pub number_field : ℕ → Option (ℤ × ℕ) → Field
number_field ty None = field.Struct []
number_field ty (Some r) = field.Int ty r.0

abbrev pub numbers_from : List ℕ → ℕ → ℕ → Integer → ℕ → ℕ → List Field
numbers_from bytes end item i at zero = []
numbers_from bytes end item i at (suc n) = number_field item (integer_read i bytes end at) ∷ numbers_from bytes end item i (at + i.size) n

abbrev pub item_of : Option TypeMeta → ℕ
item_of (Some (meta.Array count item)) = item
item_of _ = 0

abbrev pub field_by : Table → ℕ → List ℕ → ℕ → ℕ → Option FieldForm → Field
field_by t ty bytes end at None = field.Struct []
field_by t ty bytes end at (Some (form.Number i)) = number_field ty (integer_read i bytes end at)
field_by t ty bytes end at (Some (form.Numbers i count)) = field.List (item_of (slice_get t.types ty)) (numbers_from bytes end (item_of (slice_get t.types ty)) i at count)

abbrev pub bits_by : Option FieldForm → ℕ
bits_by None = 0
bits_by (Some f) = form_bits f

abbrev pub members_at : Table → List ℕ → ℕ → ℕ → List FieldMeta → List Member
members_at t bytes end at [] = []
members_at t bytes end at (f ∷ fs) = record { name = f.name; field = field_by t f.ty bytes end at (form_of t f.ty) } ∷ members_at t bytes end (at + bits_by (form_of t f.ty)) fs

abbrev pub struct_by : Table → List ℕ → ℕ → ℕ → Option TypeMeta → Field
struct_by t bytes end at (Some (meta.Struct align fs)) = field.Struct (members_at t bytes end at fs)
struct_by t bytes end at _ = field.Struct []

abbrev pub struct_at : Table → ℕ → List ℕ → ℕ → ℕ → Field
struct_at t ty bytes end at = struct_by t bytes end at (slice_get t.types ty)

-- ---- what a plan finds

-- the first field of a name that is sought
abbrev pub found : Sought → List PlannedField → Option PlannedField
found s fields = find (λ f. same_name (text_of s) (text_of f.sought)) fields

-- the value of an integer, where it can be read, and its low 8 bits
abbrev pub value_at : List ℕ → ℕ → Integer → ℕ → Option ℤ
value_at bytes end i at = option_map (λ r. r.0) (integer_read i bytes end at)

abbrev pub byte_by : Option ℤ → ℕ
byte_by None = 0
byte_by (Some z) = cast_unsigned w128 z % 256

-- the number that it is
abbrev pub number_in : List ℕ → ℕ → ℕ → FieldForm → Option ℤ
number_in bytes end at (form.Number i) = value_at bytes end i at
number_in bytes end at (form.Numbers i count) = None

abbrev pub number_by : List ℕ → ℕ → ℕ → Option PlannedField → Option ℤ
number_by bytes end at None = None
number_by bytes end at (Some f) = number_in bytes end (at + f.offset) f.form

-- the name of a thread that it spells
abbrev pub spelt : List ℕ → ℕ → ℕ → Integer → ℕ → List ℕ
spelt bytes end at i count = take 15 (name_in (map byte_of (numbers_from bytes end 0 i at count)))

abbrev pub name_spelt : List ℕ → ℕ → ℕ → FieldForm → Option (List ℕ)
name_spelt bytes end at (form.Number i) = None
name_spelt bytes end at (form.Numbers i count) = if i.size == 8 then Some (spelt bytes end at i count) else None

abbrev pub name_by_plan : List ℕ → ℕ → ℕ → Option PlannedField → Option (List ℕ)
name_by_plan bytes end at None = None
name_by_plan bytes end at (Some f) = name_spelt bytes end (at + f.offset) f.form

-- ---- a plan that can be read by

-- a field that can be read within so many bits
pub record IsPlaced (bits : ℕ) (f : PlannedField) : Type 0 where
  pub readable : IsReadable (integer_in f.form)
  pub within : f.offset + form_bits f.form ≤ bits

-- the plan of its type, whose fields can be read
pub record IsPlan (t : Table) (plan : EventPlan) : Type 0 where
  pub its : plan_of_type t plan.ty ≡ Some plan
  pub fields : AllByRecursion (IsPlaced plan.bits) plan.fields

-- all of its bits are there from this one on
pub record IsPlanAt (t : Table) (plan : EventPlan) (bytes : List ℕ) (end : ℕ) (at : ℕ) : Type 0 where
  pub usable : IsPlan t plan
  pub span : IsSpan bytes end
  pub there : at + plan.bits ≤ end
