-- Fields of events that were passed over, and can be read from their first bit on where they are wanted (this project's own).
use Rattle.std.specs.Prelude.{◌≡◌, ℕ, ◌%◌, ◌^◌, ◌≤◌, List, [], Option, Some, None, option_map, slice_get}
use Rattle.type_table.specs.Table.{Table}
use Rattle.type_table.specs.TraceMetas.{TraceMetaModel}
use Rattle.type_table.specs.declared.declared.EventParts.{EventParts}
use Rattle.ctf_fields.specs.declared.field.Field.{Field}
use Rattle.ctf_fields.specs.declared.field.Field.TheVariants as field
use Rattle.ctf_fields.specs.Fields.{Scopes}
use Rattle.ctf_fields.specs.Reading.{Got, scope_read}
use Rattle.read_plan.specs.FixedSizes.{skip_at}

-- in some scopes this is what is read of a type from this bit on; where there is no type, it is a structure without fields
abbrev pub IsReadFrom : Table → List ℕ → ℕ → Option ℕ → ℕ → Field → Type 0
IsReadFrom t bytes end None at whole = whole ≡ field.Struct []
IsReadFrom t bytes end (Some ty) at whole = (scopes : Scopes) × (bit : ℕ) × (scope_read (record { table = t; bytes = bytes; end = end; scopes = scopes }) ty at ≡ Got whole bit)

-- the fields that were kept are the whole, or these were passed over, where that is allowed, and begin at this whole byte
abbrev pub AreKeptOrAt : Table → List ℕ → ℕ → Option ℕ → Option ℕ → Field → Field → Option ℕ → Type 0
AreKeptOrAt t bytes end ty skip whole kept None = kept ≡ whole
AreKeptOrAt t bytes end ty skip whole kept (Some at) = (at % 8 ≡ 0) × (at ≤ 2 ^ 63) × ((bits : ℕ) × (skip ≡ Some bits)) × IsReadFrom t bytes end ty at whole

-- the same of the fields of an event that is declared
pub record AreFieldsOf (m : TraceMetaModel) (bytes : List ℕ) (end : ℕ) (skips : List (Option ℕ)) (event : ℕ) (whole kept : Field) (from : Option ℕ) : Type 0 where
  pub parts : EventParts
  pub declared : option_map (λ e. e.1) (slice_get m.declared.events event) ≡ Some parts
  pub fields : AreKeptOrAt m.table bytes end parts.fields (skip_at skips event) whole kept from
