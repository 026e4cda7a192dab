-- Steps of reading tokens: what they begin with and the tokens after it, or nothing.
use Rattle.std.specs.Prelude.{◌≡◌, ℕ, zero, suc, Bool, if◌then◌else◌, List, [], ◌∷◌, ◌++◌, length, drop, Option, Some, None, option_map, Result, Ok, Err}
use Rattle.tsdl_lex.specs.declared.token.Token.{Token}
use Rattle.tsdl_lex.specs.declared.token.TokenKind.{TokenKind}
use Rattle.tsdl_lex.specs.declared.token.TokenKind.TheVariants as kind
use Rattle.tsdl_parser.specs.declared.symbol.Symbol.{Symbol}
use Rattle.tsdl_parser.specs.declared.symbol.Symbol.TheVariants as s
use Rattle.tsdl_parser.specs.declared.fault.Fault.{Fault}
use Rattle.tsdl_parser.specs.declared.fault.Fault.TheVariants.{Refused, OutOfMemory}
use Rattle.tsdl_parser.specs.Symbols.{same, head}

abbrev pub Outcome : Type 0 → Type 0
Outcome A = Option (A × List Token)

abbrev pub Parser : Type 0 → Type 0
Parser A = List Token → Outcome A

abbrev pub and_then : {A B : Type 0} → Outcome A → (A → Parser B) → Outcome B
and_then (Some p) f = f p.0 p.1
and_then None f = None

infixl 10 ◌>>=◌
abbrev pub ◌>>=◌ : {A B : Type 0} → Parser A → (A → Parser B) → Parser B
p >>= f = λ ts. and_then (p ts) f

infixl 10 ◌>>◌
abbrev pub ◌>>◌ : {A B : Type 0} → Parser A → Parser B → Parser B
p >> q = p >>= (λ _. q)

abbrev pub pure : {A : Type 0} → A → Parser A
pure a = λ ts. Some (a, ts)

infixr 11 ◌<$>◌
abbrev pub ◌<$>◌ : {A B : Type 0} → (A → B) → Parser A → Parser B
f <$> p = p >>= (λ x. pure (f x))

abbrev pub refuse : {A : Type 0} → Parser A
refuse = λ ts. None

abbrev pub peek : Parser Symbol
peek = λ ts. Some (head ts, ts)

abbrev pub skip : Parser (Unit {0})
skip = λ ts. Some (tt, drop 1 ts)

unfoldable pub sees : Symbol → List Token → Bool
sees symbol ts = same (head ts) symbol

unfoldable pub after : Symbol → List Token → List Token
after symbol ts = if sees symbol ts then drop 1 ts else ts

-- passes this symbol, if it comes next
abbrev pub eat : Symbol → Parser Bool
eat symbol = λ ts. Some (sees symbol ts, after symbol ts)

unfoldable pub expect : Symbol → Parser (Unit {0})
expect symbol = λ ts. if sees symbol ts then Some (tt, drop 1 ts) else None

-- what this symbol introduces, if it comes next
abbrev pub if_seen : {A : Type 0} → Symbol → Parser A → Parser (Option A)
if_seen symbol p = λ ts. if sees symbol ts then (Some <$> p) ts else pure None ts

-- the value of a token
abbrev pub word_of : TokenKind → Option (List ℕ)
word_of (kind.Word text) = Some text
word_of (kind.Number n) = None
word_of (kind.Str text) = None
word_of (kind.Mark m) = None

abbrev pub number_of : TokenKind → Option ℕ
number_of (kind.Word text) = None
number_of (kind.Number n) = Some n
number_of (kind.Str text) = None
number_of (kind.Mark m) = None

abbrev pub string_of : TokenKind → Option (List ℕ)
string_of (kind.Word text) = None
string_of (kind.Number n) = None
string_of (kind.Str text) = Some text
string_of (kind.Mark m) = None

abbrev pub valued : {A : Type 0} → (TokenKind → Option A) → Parser A
valued of [] = None
valued of (t ∷ ts) = option_map (λ a. (a, ts)) (of t.kind)

unfoldable pub word : Parser (List ℕ)
word = valued word_of

unfoldable pub number : Parser ℕ
number = valued number_of

unfoldable pub string : Parser (List ℕ)
string = valued string_of

unfoldable pub name : Parser (List ℕ)
name = λ ts. if sees s.Name ts then word ts else None

-- items up to the closing brace. The number bounds the turns; each takes a token, so the count of tokens is enough.
unfoldable pub items_from : {A : Type 0} → Parser A → ℕ → List A → Parser (List A)
items_from item zero found = refuse
items_from item (suc n) found = do
  closed ← eat s.CloseBrace
  if closed then pure found else (do x ← item; items_from item n (found ++ x ∷ []))

abbrev pub items : {A : Type 0} → Parser A → Parser (List A)
items item = λ ts. items_from item (length ts) [] ts

abbrev pub braced : {A : Type 0} → Parser A → Parser (List A)
braced item = expect s.OpenBrace >> items item

-- what a function that reads ensures: the outcome, unless memory fails
abbrev pub Reads : {A : Type 0} → Outcome A → Result A Fault → List Token → Type 0
Reads outcome (Ok a) new = outcome ≡ Some (a, new)
Reads outcome (Err Refused) new = outcome ≡ None
Reads outcome (Err OutOfMemory) new = Unit {0}
