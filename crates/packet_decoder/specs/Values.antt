-- The values of the fields of a packet that are found by their names (the names are those of CTF 1.8, sections 5.1 and 5.2; the order in which they are looked for is this project's own).
pub use Rattle.ctf_fields.specs.Values.{number_named, value_named, below, below_if_any}
use Rattle.std.specs.Prelude.{ℕ, ℤ, pos, ◌^◌, ◌==◌, ◌&&◌, Bool, true, false, List, [], ◌∷◌, length, Option, Some, None, option_map, if◌then◌else◌}
use Rattle.std.specs.Ordering.{int_eq}
use Rattle.type_table.specs.Table.{Table}
use Rattle.type_table.specs.declared.integer.Integer.{Integer}
use Rattle.ctf_fields.specs.declared.field.Field.{Field, out-Field}
use Rattle.ctf_fields.specs.declared.field.Field.TheOpen.{Field-F}
use Rattle.ctf_fields.specs.declared.field.Member.{Member}
use Rattle.ctf_fields.specs.Fields.{number_of}
use Rattle.ctf_fields.specs.Reading.{integer_type}
use Rattle.packet_decoder.specs.declared.piece.Counter.{Counter}

-- the magic number, where there is an integer of that name
abbrev pub is_magic : Option (ℤ × ℕ) → Bool
is_magic None = true
is_magic (Some n) = int_eq n.0 (pos 0xc1fc1fc1)

abbrev pub magic_matches : Option Field → Bool
magic_matches f = is_magic (number_of f)

-- the trace's id, where both are there
abbrev pub is_byte : ℕ → Option (ℤ × ℕ) → Bool
is_byte b None = false
is_byte b (Some n) = int_eq n.0 (pos b)

abbrev pub are_bytes : List ℕ → List Field → Bool
are_bytes [] [] = true
are_bytes (b ∷ bytes) (f ∷ fs) = is_byte b (number_of (Some f)) && are_bytes bytes fs
are_bytes _ _ = false

abbrev pub is_id : List ℕ → Field-F Field Member → Bool
is_id uuid (Field-F.List item fs) = if length fs == 16 then are_bytes uuid fs else true
is_id uuid _ = true

abbrev pub uuid_matches : Option (List ℕ) → Option Field → Bool
uuid_matches None f = true
uuid_matches (Some uuid) None = true
uuid_matches (Some uuid) (Some f) = is_id uuid (out-Field f)

-- an id, 0 where none is declared
abbrev pub id_in : Option (ℤ × ℕ) → Option ℕ
id_in None = Some 0
id_in (Some n) = below (2 ^ 64) n.0

-- a count without a sign
abbrev pub counter_by : Option Integer → ℤ → Option Counter
counter_by None z = None
counter_by (Some i) z = if i.signed then None else option_map (λ v. record { value = v; size = i.size }) (below (2 ^ 64) z)

abbrev pub counter_in : Table → Option (ℤ × ℕ) → Option Counter
counter_in t None = None
counter_in t (Some n) = counter_by (integer_type t n.1) n.0
