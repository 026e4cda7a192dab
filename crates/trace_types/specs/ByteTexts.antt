-- How bytes are spelled in a line of text (this project's own format).
use Rattle.std.specs.Prelude.{◌≡◌, ◌<◌, ℕ, Bool, ◌+◌, ◌/◌, ◌%◌, ◌&&◌, ◌==◌, not, if◌then◌else◌, nat_le, nat_lt, List, [], ◌∷◌, flat_map}
use Rattle.std.specs.List.{AllByRecursion}

-- an upper-case hexadecimal digit
abbrev pub hex_digit : ℕ → ℕ
hex_digit n = if nat_lt n 10 then 48 + n else 55 + n

-- a byte that stands for itself: visible ASCII other than the percent sign
abbrev pub is_plain : ℕ → Bool
is_plain b = nat_le 33 b && nat_le b 126 && not (b == 37)

-- one byte: as it is, or a percent sign and two digits
abbrev pub spelled : ℕ → List ℕ
spelled b = if is_plain b then b ∷ [] else 37 ∷ hex_digit (b / 16) ∷ hex_digit (b % 16) ∷ []

-- the spelling of bytes, one after the other; that of none is a percent sign alone
abbrev pub byte_text : List ℕ → List ℕ
byte_text [] = 37 ∷ []
byte_text (b ∷ bs) = flat_map spelled (b ∷ bs)

-- the word spells these bytes
pub record IsByteText (word bytes : List ℕ) : Type 0 where
  pub spelling : word ≡ byte_text bytes
  pub are_bytes : AllByRecursion (λ b. b < 256) bytes

-- the text is the spelling of each of these bytes, one after the other
pub record SpellsBytes (text bytes : List ℕ) : Type 0 where
  pub spelling : text ≡ flat_map spelled bytes
  pub are_bytes : AllByRecursion (λ b. b < 256) bytes
