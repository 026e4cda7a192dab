-- The classes of bytes that TSDL tells apart (CTF 1.8, section 7.3: they are those of C).
use Rattle.std.specs.Prelude.{ℕ, Bool, not, ◌&&◌, ◌||◌, ◌==◌, nat_le}
use Rattle.std.specs.Char.{is_ascii_alphabetic, is_ascii_digit}

-- a letter or an underscore
abbrev pub is_letter : ℕ → Bool
is_letter c = is_ascii_alphabetic c || c == 95

-- a byte of a word after its first
abbrev pub is_word_byte : ℕ → Bool
is_word_byte c = is_letter c || is_ascii_digit c

-- a byte with which no word goes on
abbrev pub is_other : ℕ → Bool
is_other c = not (is_word_byte c)

-- a tab, a line feed, a vertical tab, a form feed, a carriage return or a space
abbrev pub is_space : ℕ → Bool
is_space c = (nat_le 9 c && nat_le c 13) || c == 32
