-- The values of fields that are found by their names.
use Rattle.std.specs.Prelude.{ℕ, ℤ, pos, nat_lt, Option, Some, None, option_map, if◌then◌else◌}
use Rattle.type_table.specs.Table.{Table}
use Rattle.type_table.specs.Types.{Text}
use Rattle.ctf_fields.specs.declared.field.Field.{Field}
use Rattle.ctf_fields.specs.Fields.{number_of}
use Rattle.ctf_fields.specs.Named.{first_named}

-- the number of the first field of a name, with the index of its type; and its value
abbrev pub number_named : Table → Text → Option Field → Option (ℤ × ℕ)
number_named t text f = number_of (first_named t.names text f)

abbrev pub value_named : Table → Text → Option Field → Option ℤ
value_named t text f = option_map (λ n. n.0) (number_named t text f)

-- a number from 0 up to below this one
abbrev pub below : ℕ → ℤ → Option ℕ
below limit (pos n) = if nat_lt n limit then Some n else None
below limit _ = None

abbrev pub below_if_any : ℕ → Option ℤ → Option ℕ
below_if_any limit None = None
below_if_any limit (Some z) = below limit z
