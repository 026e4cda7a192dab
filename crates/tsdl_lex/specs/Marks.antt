-- Marks and comments.
use Rattle.std.specs.Prelude.{ℕ, ◌==◌, ◌&&◌, Bool, not, if◌then◌else◌, List, [], ◌∷◌, drop, nat_eq, Option, Some, None, option_and_then}
use Rattle.std.specs.List.{list_all, starts_with}
use Rattle.tsdl_lex.specs.Longest.{at_end}
use Rattle.tsdl_lex.specs.declared.token.MarkKind.{MarkKind}
use Rattle.tsdl_lex.specs.declared.token.MarkKind.TheVariants as mark

-- the marks of one byte
abbrev pub single_mark : ℕ → Option MarkKind
single_mark c =
    if c == 123 then Some mark.OpenBrace
    else if c == 125 then Some mark.CloseBrace
    else if c == 91 then Some mark.OpenBracket
    else if c == 93 then Some mark.CloseBracket
    else if c == 40 then Some mark.OpenParen
    else if c == 41 then Some mark.CloseParen
    else if c == 60 then Some mark.Less
    else if c == 62 then Some mark.Greater
    else if c == 59 then Some mark.Semicolon
    else if c == 58 then Some mark.Colon
    else if c == 44 then Some mark.Comma
    else if c == 61 then Some mark.Assign
    else if c == 46 then Some mark.Dot
    else if c == 45 then Some mark.Minus
    else None

-- the mark that a whole text is
abbrev pub mark_of : List ℕ → Option MarkKind
mark_of [] = None
mark_of (a ∷ []) = single_mark a
mark_of (a ∷ b ∷ []) = if (a == 58) && (b == 61) then Some mark.Declare else None
mark_of (a ∷ b ∷ c ∷ []) = if (a == 46) && ((b == 46) && (c == 46)) then Some mark.Ellipsis else None
mark_of (a ∷ b ∷ c ∷ d ∷ rest) = None

-- what follows the next `*/`
abbrev pub after_close : List ℕ → Option (List ℕ)
after_close [] = None
after_close (c ∷ rest) = if starts_with nat_eq (c ∷ rest) (42 ∷ 47 ∷ []) then Some (drop 1 rest) else after_close rest

-- a byte that is no line feed
abbrev pub is_in_line : ℕ → Bool
is_in_line c = not (c == 10)

-- a whole text after its first slash is a comment: a star and all up to the next `*/`, or a slash and no line feed
abbrev pub comment_of : List ℕ → Option (Unit {0})
comment_of [] = None
comment_of (c ∷ rest) =
    if c == 42 then option_and_then (at_end tt) (after_close rest)
    else if (c == 47) && list_all is_in_line rest then Some tt
    else None
