-- Fields that are found by a name, at any depth: through structures and chosen variants, and not into lists. A field stands before those within it (the order is this project's own).
use Rattle.std.specs.Prelude.{ℕ, zero, suc, List, [], ◌∷◌, Option, Some, None, if◌then◌else◌}
use Rattle.type_table.specs.Names.{same_name}
use Rattle.type_table.specs.Table.{name_at}
use Rattle.type_table.specs.Types.{Text}
use Rattle.ctf_fields.specs.declared.field.Field.{Field, out-Field}
use Rattle.ctf_fields.specs.declared.field.Field.TheOpen.{Field-F}
use Rattle.ctf_fields.specs.declared.field.Member.{Member}
use Rattle.ctf_fields.specs.Fields.{or_else}

-- how those within a field are found
abbrev pub Within : Type 0
Within = Field → Option Field

-- ---- the first of a name

abbrev pub first_at : Within → List Text → Text → ℕ → Field → Option Field
first_at inner names text name f = if same_name text (name_at names name) then Some f else inner f

abbrev pub first_member : Within → List Text → Text → List Member → Option Field
first_member inner names text [] = None
first_member inner names text (m ∷ ms) = or_else (first_at inner names text m.name m.field) (first_member inner names text ms)

abbrev pub first_by : Within → List Text → Text → Field-F Field Member → Option Field
first_by inner names text (Field-F.Struct ms) = first_member inner names text ms
first_by inner names text (Field-F.Choice name f) = first_at inner names text name f
first_by inner names text _ = None

unfoldable pub first_in : ℕ → List Text → Text → Field → Option Field
first_in zero names text f = None
first_in (suc depth) names text f = first_by (first_in depth names text) names text (out-Field f)

-- ---- the last of a name

abbrev pub last_at : Within → List Text → Text → ℕ → Field → Option Field
last_at inner names text name f = or_else (inner f) (if same_name text (name_at names name) then Some f else None)

abbrev pub last_member : Within → List Text → Text → List Member → Option Field
last_member inner names text [] = None
last_member inner names text (m ∷ ms) = or_else (last_member inner names text ms) (last_at inner names text m.name m.field)

abbrev pub last_by : Within → List Text → Text → Field-F Field Member → Option Field
last_by inner names text (Field-F.Struct ms) = last_member inner names text ms
last_by inner names text (Field-F.Choice name f) = last_at inner names text name f
last_by inner names text _ = None

unfoldable pub last_in : ℕ → List Text → Text → Field → Option Field
last_in zero names text f = None
last_in (suc depth) names text f = last_by (last_in depth names text) names text (out-Field f)

-- ---- in a field that may be there, as deep as fields go

abbrev pub first_named : List Text → Text → Option Field → Option Field
first_named names text None = None
first_named names text (Some f) = first_in 32 names text f

abbrev pub last_named : List Text → Text → Option Field → Option Field
last_named names text None = None
last_named names text (Some f) = last_in 32 names text f
