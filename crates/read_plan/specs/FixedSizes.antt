-- How many bits a type takes that takes as many wherever it begins at a whole byte, so that it can be passed over (sizes and alignments are those of CTF 1.8, sections 4.1 and 4.2; that such types are told apart is this project's own).
use Rattle.std.specs.Prelude.{◌≡◌, ℕ, zero, suc, ◌+◌, ◌*◌, ◌%◌, ◌<◌, ◌≤◌, ◌&&◌, max, Bool, nat_eq, nat_le, nat_lt, List, [], ◌∷◌, ◌++◌, length, Option, Some, None, option_map, slice_get, unwrap_or, if◌then◌else◌}
use Rattle.std.specs.Option.{option_and_then}
use Rattle.type_table.specs.Table.{Table}
use Rattle.type_table.specs.TraceMetas.{TraceMetaModel}
use Rattle.type_table.specs.declared.declared.EventParts.{EventParts}
use Rattle.type_table.specs.declared.integer.Integer.{Integer}
use Rattle.type_table.specs.declared.meta.FieldMeta.{FieldMeta}
use Rattle.type_table.specs.declared.meta.TypeMeta.{TypeMeta}
use Rattle.type_table.specs.declared.meta.TypeMeta.TheVariants as meta
use Rattle.ctf_fields.specs.declared.error.FieldError.TheVariants.{ShortContent, NoVariant, TooLong, OutOfMemory}
use Rattle.read_plan.specs.declared.fixed.FixedSize.{FixedSize}
use Rattle.ctf_fields.specs.Fields.{Scopes}
use Rattle.ctf_fields.specs.Reading.{MAX_TYPE_DEPTH, Reads, Got, Fails, align_at, integer_type, scope_read}

-- what is read takes so many bits from here: all of them lie before the end, or the content is too short; what takes no bit is read wherever it is
abbrev pub Passes : {A : Type 0} → Reads A → ℕ → ℕ → ℕ → Type 0
Passes (Got a bit) at bits end = (bit ≡ at + bits) × (1 ≤ bits → at + bits ≤ end)
Passes (Fails ShortContent) at bits end = (1 ≤ bits) × (end < at + bits)
Passes (Fails NoVariant) at bits end = ⊥
Passes (Fails TooLong) at bits end = ⊥
Passes (Fails OutOfMemory) at bits end = ⊥

-- a type takes so many bits wherever it begins at a whole byte
abbrev pub TakesBits : Table → ℕ → ℕ → Type 0
TakesBits t ty bits = (bytes : List ℕ) (end : ℕ) (scopes : Scopes) (at : ℕ) → at % 8 ≡ 0 → Passes (scope_read (record { table = t; bytes = bytes; end = end; scopes = scopes }) ty at) at bits end

-- ---- the sizes of a table's types, each by those of the types before it

-- whole bytes are aligned so
abbrev pub within_byte : ℕ → Bool
within_byte align = nat_eq (8 % align) 0

abbrev pub size_at : List (Option FixedSize) → ℕ → Option FixedSize
size_at sizes ty = unwrap_or (slice_get sizes ty) None

-- a size of 64 bits
abbrev pub size_within : ℕ → ℕ → Option FixedSize
size_within bits depth = if nat_lt bits 18446744073709551616 then Some (record { bits = bits; depth = depth }) else None

-- an integer of whole bytes
abbrev pub number_size : Integer → Option FixedSize
number_size i = if nat_le 1 i.size && nat_eq (i.size % 8) 0 && within_byte i.align then Some (record { bits = i.size; depth = 1 }) else None

-- one after the other
abbrev pub joined : FixedSize → FixedSize → Option FixedSize
joined a b = size_within (a.bits + b.bits) (max a.depth b.depth)

-- one more field after those that take so much
abbrev pub with_field : List (Option FixedSize) → FixedSize → ℕ → Option FixedSize
with_field sizes done ty = option_and_then (joined done) (size_at sizes ty)

-- fields after those that take so much
abbrev pub members_from : List (Option FixedSize) → FixedSize → List FieldMeta → Option FixedSize
members_from sizes done [] = Some done
members_from sizes done (f ∷ fs) = option_and_then (λ sum. members_from sizes sum fs) (with_field sizes done f.ty)

abbrev pub no_size : FixedSize
no_size = record { bits = 0; depth = 0 }

-- a type that is one deeper than what stands in it
abbrev pub one_around : FixedSize → Option FixedSize
one_around s = if nat_lt s.depth MAX_TYPE_DEPTH then Some (record { bits = s.bits; depth = s.depth + 1 }) else None

abbrev pub struct_size : List (Option FixedSize) → ℕ → List FieldMeta → Option FixedSize
struct_size sizes align fs = if within_byte align then option_and_then one_around (members_from sizes no_size fs) else None

abbrev pub repeated : ℕ → FixedSize → Option FixedSize
repeated count s = size_within (count * s.bits) s.depth

abbrev pub array_size : Table → List (Option FixedSize) → ℕ → ℕ → Option FixedSize
array_size t sizes count item = if within_byte (align_at t item) then option_and_then one_around (option_and_then (repeated count) (size_at sizes item)) else None

abbrev pub sized_by : Table → List (Option FixedSize) → ℕ → Option TypeMeta → Option FixedSize
sized_by t sizes ty None = None
sized_by t sizes ty (Some (meta.Struct align fs)) = struct_size sizes align fs
sized_by t sizes ty (Some (meta.Array count item)) = array_size t sizes count item
sized_by t sizes ty (Some _) = option_and_then number_size (integer_type t ty)

-- the size of a type by those of the types before it
abbrev pub sized : Table → List (Option FixedSize) → ℕ → Option FixedSize
sized t sizes ty = sized_by t sizes ty (slice_get t.types ty)

-- the sizes of the first so many types
unfoldable pub sizes_of_first : Table → ℕ → List (Option FixedSize)
sizes_of_first t zero = []
sizes_of_first t (suc n) = sizes_of_first t n ++ sized t (sizes_of_first t n) n ∷ []

abbrev pub sizes_of : Table → List (Option FixedSize)
sizes_of t = sizes_of_first t (length t.types)

-- ---- the fields of events that may be passed over

-- for an event, how many bits its fields take, where they may be passed over
abbrev pub skip_at : List (Option ℕ) → ℕ → Option ℕ
skip_at skips event = unwrap_or (slice_get skips event) None

-- so many bits for the fields of an event, which may have none
abbrev pub FieldsTake : Table → Option ℕ → ℕ → Type 0
FieldsTake t None bits = bits ≡ 0
FieldsTake t (Some ty) bits = TakesBits t ty bits

-- where a number of bits stands for an event, its fields take as many
abbrev pub AreSkips : TraceMetaModel → List (Option ℕ) → Type 0
AreSkips m skips = (event bits : ℕ) (parts : EventParts) → skip_at skips event ≡ Some bits → option_map (λ e. e.1) (slice_get m.declared.events event) ≡ Some parts → FieldsTake m.table parts.fields bits
