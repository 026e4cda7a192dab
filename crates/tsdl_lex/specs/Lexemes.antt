-- The token grammar of TSDL (CTF 1.8, section 7.3, after that of C), read by the longest match.
use Rattle.std.specs.Prelude.{◌≡◌, ℕ, ◌≤◌, ◌==◌, ◌&&◌, Bool, true, false, if◌then◌else◌, List, [], ◌∷◌, length, take, get_or, Option, Some, None, option_map}
use Rattle.std.specs.List.{list_all}
use Rattle.std.specs.Char.{is_ascii_digit}
use Rattle.tsdl_lex.specs.declared.token.TokenKind.TheVariants.{Word, Number, Str, Mark}
use Rattle.tsdl_lex.specs.declared.lexeme.Lexeme.{Lexeme}
use Rattle.tsdl_lex.specs.declared.lexeme.Lexeme.TheVariants.{Token, Gap}
use Rattle.tsdl_lex.specs.Bytes.{is_letter, is_word_byte, is_space}
use Rattle.tsdl_lex.specs.Longest.{IsLongest}
use Rattle.tsdl_lex.specs.Numbers.{number_of}
use Rattle.tsdl_lex.specs.Strings.{string_of}
use Rattle.tsdl_lex.specs.Marks.{mark_of, comment_of}

abbrev pub is_empty : List ℕ → Bool
is_empty [] = true
is_empty (c ∷ rest) = false

-- the token that a whole text is, or that it is a space or a comment, by the text's first byte
abbrev pub lexeme_of : List ℕ → Option Lexeme
lexeme_of [] = None
lexeme_of (c ∷ rest) =
    if is_letter c then (if list_all is_word_byte rest then Some (Token (Word (c ∷ rest))) else None)
    else if is_ascii_digit c then option_map (λ n. Token (Number n)) (number_of (c ∷ rest))
    else if c == 34 then option_map (λ s. Token (Str s)) (string_of rest)
    else if c == 47 then option_map (λ _. Gap) (comment_of rest)
    else if is_space c then (if is_empty rest then Some Gap else None)
    else option_map (λ m. Token (Mark m)) (mark_of (c ∷ rest))

-- a number ends where no letter, digit or underscore follows
abbrev pub is_cut : List ℕ → ℕ → Bool
is_cut text len = is_ascii_digit (get_or text 0 0) && is_word_byte (get_or text len 0)

-- a text begins with this lexeme, and the lexeme takes as many bytes as it can
pub record IsFirst (text : List ℕ) (len : ℕ) (lexeme : Lexeme) : Type 0 where
  pub longest : IsLongest lexeme_of text len lexeme
  pub whole : is_cut text len ≡ false

-- no token, comment or space begins a text
abbrev pub IsNone : List ℕ → Type 0
IsNone text = (len : ℕ) (lexeme : Lexeme) → len ≤ length text → lexeme_of (take len text) ≡ Some lexeme → is_cut text len ≡ true
