-- Numbers as C writes them (CTF 1.8, section 7.3: unsigned constants).
use Rattle.std.specs.Prelude.{ℕ, ◌^◌, ◌==◌, ◌&&◌, ◌||◌, Bool, not, nat_lt, nat_le, if◌then◌else◌, List, length, take, drop, get_or, Option, Some, None}
use Rattle.std.specs.List.{position_or_len, list_all}
use Rattle.std.specs.Char.{is_digit}
use Rattle.std.specs.Str.Parse.{digits_value}

-- how many digits of a base a text begins with
abbrev pub digits_of : ℕ → List ℕ → ℕ
digits_of base text = position_or_len (λ c. not (is_digit c base)) text

-- u, U, l or L
abbrev pub is_suffix_letter : ℕ → Bool
is_suffix_letter c = (c == 117) || ((c == 85) || ((c == 108) || (c == 76)))

-- at most three letters that say which type the number has in C
abbrev pub is_suffix : List ℕ → Bool
is_suffix text = nat_le (length text) 3 && list_all is_suffix_letter text

-- a number of 64 bits, in digits of a base, one at least
abbrev pub spelled_by : ℕ → List ℕ → Option ℕ
spelled_by base digits = if nat_lt 0 (length digits) && nat_lt (digits_value base digits) (2 ^ 64) then Some (digits_value base digits) else None

-- digits of a base, and then at most a suffix
abbrev pub in_base : ℕ → List ℕ → Option ℕ
in_base base text = if is_suffix (drop (digits_of base text) text) then spelled_by base (take (digits_of base text) text) else None

-- the number that a whole text spells: hexadecimal after `0x`, octal where it begins with 0, else decimal
abbrev pub number_of : List ℕ → Option ℕ
number_of text =
    if get_or text 0 0 == 48
    then (if get_or text 1 0 == 120 then in_base 16 (drop 2 text) else in_base 8 text)
    else in_base 10 text
