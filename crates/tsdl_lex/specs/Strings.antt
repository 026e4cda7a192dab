-- Strings as C writes them (CTF 1.8, section 7.3: string literals).
use Rattle.std.specs.Prelude.{ℕ, ◌+◌, ◌*◌, ◌==◌, ◌&&◌, nat_lt, zero, suc, if◌then◌else◌, List, [], ◌∷◌, Option, Some, None, option_map, option_and_then}
use Rattle.std.specs.Char.{digit_value, is_digit}
use Rattle.tsdl_lex.specs.Longest.{at_end}

-- the byte that a letter after a backslash stands for: a quote, a backslash, an apostrophe or a question mark itself, or a control character
abbrev pub simple_escape : ℕ → Option ℕ
simple_escape c =
    if c == 34 then Some 34
    else if c == 92 then Some 92
    else if c == 39 then Some 39
    else if c == 63 then Some 63
    else if c == 110 then Some 10
    else if c == 116 then Some 9
    else if c == 114 then Some 13
    else if c == 97 then Some 7
    else if c == 98 then Some 8
    else if c == 102 then Some 12
    else if c == 118 then Some 11
    else None

-- hexadecimal digits after `\x`: two, or one where no second follows
abbrev pub hex_second : ℕ → List ℕ → ℕ × ℕ
hex_second n [] = (n, 2)
hex_second n (d ∷ rest) = if is_digit d 16 then (16 * n + digit_value d, 3) else (n, 2)

abbrev pub hex_escape : List ℕ → Option (ℕ × ℕ)
hex_escape [] = None
hex_escape (d ∷ rest) = if is_digit d 16 then Some (hex_second (digit_value d) rest) else None

-- octal digits after the backslash: up to three, as many as there are while the value stays below 256
abbrev pub octal_third : ℕ → List ℕ → ℕ × ℕ
octal_third n [] = (n, 2)
octal_third n (d ∷ rest) = if is_digit d 8 && nat_lt (8 * n + digit_value d) 256 then (8 * n + digit_value d, 3) else (n, 2)

abbrev pub octal_second : ℕ → List ℕ → ℕ × ℕ
octal_second n [] = (n, 1)
octal_second n (d ∷ rest) = if is_digit d 8 then octal_third (8 * n + digit_value d) rest else (n, 1)

-- what the text after a backslash begins with: the byte that it stands for, and how many bytes it takes
abbrev pub escape : List ℕ → Option (ℕ × ℕ)
escape [] = None
escape (c ∷ rest) =
    if c == 120 then hex_escape rest
    else if is_digit c 8 then Some (octal_second (digit_value c) rest)
    else option_map (λ b. (b, 1)) (simple_escape c)

-- a byte before what is read
abbrev pub prepend : ℕ → Option (List ℕ × List ℕ) → Option (List ℕ × List ℕ)
prepend b read = option_map (λ r. (b ∷ r.0, r.1)) read

-- The value of a string from after its opening quote on, and what follows the closing one. The
-- number says how many bytes of an escape are still passed over.
unfoldable pub content : ℕ → List ℕ → Option (List ℕ × List ℕ)
content skipped [] = None
content (suc skipped) (c ∷ rest) = content skipped rest
content zero (c ∷ rest) =
    if c == 34 then Some ([], rest)
    else if c == 10 then None
    else if c == 92 then option_and_then (λ e. prepend e.0 (content e.1 rest)) (escape rest)
    else prepend c (content zero rest)

-- the value of a whole string, from after its opening quote on
abbrev pub string_of : List ℕ → Option (List ℕ)
string_of text = option_and_then (λ r. at_end r.0 r.1) (content 0 text)
