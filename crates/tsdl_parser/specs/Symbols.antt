-- The symbols of the grammar of TSDL (CTF 1.8, appendix C).
use Rattle.std.specs.Prelude.{ℕ, List, [], ◌∷◌, Bool, if◌then◌else◌, codes}
use denote.Enum.Bare.{sameb}
use Rattle.trace_types.specs.Texts.{is_text}
use Rattle.tsdl_lex.specs.declared.token.Token.{Token}
use Rattle.tsdl_lex.specs.declared.token.TokenKind.{TokenKind}
use Rattle.tsdl_lex.specs.declared.token.TokenKind.TheVariants as kind
use Rattle.tsdl_lex.specs.declared.token.MarkKind.{MarkKind}
use Rattle.tsdl_lex.specs.declared.token.MarkKind.TheVariants as mark
use Rattle.tsdl_parser.specs.declared.symbol.Symbol.{Symbol}
use Rattle.tsdl_parser.specs.declared.symbol.Symbol.TheVariants as s
use Rattle.tsdl_parser.specs.contracts.symbol.Symbol.{the_type}

-- `==` on symbols
unfoldable pub same : Symbol → Symbol → Bool
same = sameb the_type

-- a keyword, or else a name
unfoldable pub word_symbol : List ℕ → Symbol
word_symbol word =
    if is_text word (codes "typealias") then s.Typealias
    else if is_text word (codes "struct") then s.Struct
    else if is_text word (codes "variant") then s.Variant
    else if is_text word (codes "enum") then s.Enum
    else if is_text word (codes "integer") then s.Integer
    else if is_text word (codes "floating_point") then s.FloatingPoint
    else if is_text word (codes "string") then s.String
    else if is_text word (codes "trace") then s.Trace
    else if is_text word (codes "stream") then s.Stream
    else if is_text word (codes "event") then s.Event
    else if is_text word (codes "clock") then s.Clock
    else if is_text word (codes "env") then s.Env
    else if is_text word (codes "callsite") then s.Callsite
    else s.Name

abbrev pub mark_symbol : MarkKind → Symbol
mark_symbol mark.OpenBrace = s.OpenBrace
mark_symbol mark.CloseBrace = s.CloseBrace
mark_symbol mark.OpenBracket = s.OpenBracket
mark_symbol mark.CloseBracket = s.CloseBracket
mark_symbol mark.OpenParen = s.OpenParen
mark_symbol mark.CloseParen = s.CloseParen
mark_symbol mark.Less = s.Less
mark_symbol mark.Greater = s.Greater
mark_symbol mark.Semicolon = s.Semicolon
mark_symbol mark.Colon = s.Colon
mark_symbol mark.Comma = s.Comma
mark_symbol mark.Assign = s.Assign
mark_symbol mark.Declare = s.Declare
mark_symbol mark.Dot = s.Dot
mark_symbol mark.Ellipsis = s.Ellipsis
mark_symbol mark.Minus = s.Minus

-- the symbol that a token stands for
abbrev pub symbol_of : TokenKind → Symbol
symbol_of (kind.Word word) = word_symbol word
symbol_of (kind.Number n) = s.Number
symbol_of (kind.Str text) = s.Str
symbol_of (kind.Mark m) = mark_symbol m

-- the symbol at the front of tokens
abbrev pub head : List Token → Symbol
head [] = s.End
head (token ∷ tokens) = symbol_of token.kind
