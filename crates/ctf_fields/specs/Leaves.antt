-- Integers and strings, as they lie in the bits of a packet (CTF 1.8, sections 4.1.1, 4.1.2 and 4.1.5 to 4.1.7).
use Rattle.std.specs.Prelude.{ℕ, ℤ, pos, ◌-ℤ◌, ◌+◌, ◌-◌, ◌*◌, ◌/◌, ◌^◌, ◌≤◌, ◌==◌, ◌&&◌, nat_le, if◌then◌else◌, List, [], ◌∷◌, length, take, drop, Option, Some, None, option_map}
use Rattle.std.specs.Int.{next_multiple_of}
use Rattle.bit_reader.specs.Bits.{integer}
use Rattle.type_table.specs.declared.integer.Integer.{Integer}

-- bits that may be read up to this bit
pub record IsSpan (bytes : List ℕ) (end : ℕ) : Type 0 where
  pub within : end ≤ 8 * length bytes
  pub small : end ≤ 2 ^ 63

-- an integer that can be read
pub record IsReadable (i : Integer) : Type 0 where
  pub some : 1 ≤ i.size
  pub wide : i.size ≤ 64
  pub aligned : 1 ≤ i.align

-- the value of so many bits: of a signed integer whose bit of highest value is set, 2^size is taken away
abbrev pub value_of : Integer → ℕ → ℤ
value_of i n = if i.signed && nat_le (2 ^ (i.size - 1)) n then pos n -ℤ pos (2 ^ i.size) else pos n

-- the integer at this bit, and the bit after it
abbrev pub integer_at : Integer → List ℕ → ℕ → ℕ → Option (ℤ × ℕ)
integer_at i bytes end bit = if nat_le (bit + i.size) end then Some (value_of i (integer i.order bytes bit i.size), bit + i.size) else None

-- it lies at the first bit from here that it is aligned to
abbrev pub integer_read : Integer → List ℕ → ℕ → ℕ → Option (ℤ × ℕ)
integer_read i bytes end at = integer_at i bytes end (next_multiple_of at i.align)

-- the bytes before the first zero byte
abbrev pub text_in : List ℕ → Option (List ℕ)
text_in [] = None
text_in (b ∷ bs) = if b == 0 then Some [] else option_map (λ text. b ∷ text) (text_in bs)

-- the whole bytes from this bit to the end
abbrev pub bytes_from : List ℕ → ℕ → ℕ → List ℕ
bytes_from bytes end bit = drop (bit / 8) (take (end / 8) bytes)

-- a string with the bit after its zero byte, where it begins at this one
abbrev pub behind : ℕ → List ℕ → List ℕ × ℕ
behind bit text = (text, bit + 8 * (length text + 1))

-- the string at the first whole byte from here, and the bit after it
abbrev pub text_read : List ℕ → ℕ → ℕ → Option (List ℕ × ℕ)
text_read bytes end at = option_map (behind (next_multiple_of at 8)) (text_in (bytes_from bytes end (next_multiple_of at 8)))
