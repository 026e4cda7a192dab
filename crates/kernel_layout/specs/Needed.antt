-- What an event's fields hold, in the forms and ranges that kinds of events need. The first field of a name counts, also where its form or its range is wrong (this project's own).
use Rattle.std.specs.Prelude.{ℕ, ℤ, ◌^◌, ◌*◌, ◌+◌, ◌%◌, ◌==◌, ◌&&◌, not, nat_le, nat_lt, int_le, Bool, false, List, [], ◌∷◌, length, map, take, Option, Some, None, option_map, if◌then◌else◌}
use Rattle.std.specs.Int.{w128, cast_unsigned}
use Rattle.type_table.specs.Table.{Table}
use Rattle.type_table.specs.Types.{Text}
use Rattle.type_table.specs.declared.integer.Integer.{Integer}
use Rattle.trace_types.specs.Padding.{name_in}
use Rattle.ctf_fields.specs.declared.field.Field.{Field, out-Field}
use Rattle.ctf_fields.specs.declared.field.Field.TheOpen.{Field-F}
use Rattle.ctf_fields.specs.declared.field.Member.{Member}
use Rattle.ctf_fields.specs.Fields.{number_of}
use Rattle.ctf_fields.specs.Named.{first_named}
use Rattle.ctf_fields.specs.Reading.{integer_type}
use Rattle.ctf_fields.specs.Values.{below, below_if_any, value_named}

abbrev pub and_then : {A B : Type 0} → Option A → (A → Option B) → Option B
and_then None next = None
and_then (Some a) next = next a

-- ---- numbers

abbrev pub number : Table → Field → Text → Option ℤ
number t f name = value_named t name (Some f)

-- the value of a field that is a number
abbrev pub value_of : Option Field → Option ℤ
value_of f = option_map (λ n. n.0) (number_of f)

-- a tid, a processor, an interrupt or a status
abbrev pub small : Table → Field → Text → Option ℕ
small t f name = below_if_any 2147483648 (number t f name)

-- a number of 16, of 32 and of 64 bits without a sign
abbrev pub of_16 : Table → Field → Text → Option ℕ
of_16 t f name = below_if_any 65536 (number t f name)

abbrev pub of_32 : Table → Field → Text → Option ℕ
of_32 t f name = below_if_any 4294967296 (number t f name)

abbrev pub of_64 : Table → Field → Text → Option ℕ
of_64 t f name = below_if_any (2 ^ 64) (number t f name)

-- a number from the one to the other
abbrev pub between : ℤ → ℤ → Option ℤ → Option ℤ
between low high None = None
between low high (Some z) = if int_le low z && int_le z high then Some z else None

-- ---- names of threads

-- the byte of an item of a list, its low 8 bits; an item that is no number ends the name
abbrev pub byte_in : Option (ℤ × ℕ) → ℕ
byte_in None = 0
byte_in (Some n) = cast_unsigned w128 n.0 % 256

abbrev pub byte_of : Field → ℕ
byte_of f = byte_in (number_of (Some f))

abbrev pub is_byte : Option Integer → Bool
is_byte None = false
is_byte (Some i) = i.size == 8

-- the bytes before the first zero, and the first 15 of these where there are more: of a string, or of a list of integers of 8 bits
abbrev pub name_by : Table → Field-F Field Member → Option (List ℕ)
name_by t (Field-F.Text bytes) = Some (take 15 (name_in bytes))
name_by t (Field-F.List item fs) = if is_byte (integer_type t item) then Some (take 15 (name_in (map byte_of fs))) else None
name_by t _ = None

abbrev pub comm_in : Table → Option Field → Option (List ℕ)
comm_in t None = None
comm_in t (Some f) = name_by t (out-Field f)

abbrev pub comm : Table → Field → Text → Option (List ℕ)
comm t f name = comm_in t (first_named t.names name (Some f))

-- ---- addresses

-- a number, followed by one of so many bits; all bits together are at most 128
abbrev pub followed : ℕ → ℕ → Option (ℤ × ℕ) → Option ℕ
followed size v None = None
followed size v (Some n) = and_then (below (2 ^ size) n.0) (λ d. if nat_lt (v * 2 ^ size + d) (2 ^ 128) then Some (v * 2 ^ size + d) else None)

-- integers of so many bits each, the most significant first
abbrev pub joined : ℕ → ℕ → List Field → Option ℕ
joined size v [] = Some v
joined size v (f ∷ fs) = and_then (followed size v (number_of (Some f))) (λ w. joined size w fs)

abbrev pub list_address : Option Integer → List Field → Option ℕ
list_address None fs = None
list_address (Some i) fs = if not i.signed && nat_le (i.size * length fs) 128 then joined i.size 0 fs else None

abbrev pub lone_address : Option Integer → ℤ → Option ℕ
lone_address None z = None
lone_address (Some i) z = if i.signed then None else below (2 ^ 64) z

-- an integer without a sign, or a list of such of one size
abbrev pub address_by : Table → Field-F Field Member → Option ℕ
address_by t (Field-F.Int ty z) = lone_address (integer_type t ty) z
address_by t (Field-F.List item fs) = list_address (integer_type t item) fs
address_by t _ = None

abbrev pub address_in : Table → Option Field → Option ℕ
address_in t None = None
address_in t (Some f) = address_by t (out-Field f)

abbrev pub address : Table → Field → Text → Option ℕ
address t f name = address_in t (first_named t.names name (Some f))
