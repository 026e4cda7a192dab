-- How many braces are open after tokens.
use Rattle.std.specs.Prelude.{ℕ, ◌+◌, ◌-◌, ◌<◌, ◌≤◌, List, length, take, fold}
use Rattle.tsdl_lex.specs.declared.token.Token.{Token}
use Rattle.tsdl_parser.specs.declared.symbol.Symbol.{Symbol}
use Rattle.tsdl_parser.specs.declared.symbol.Symbol.TheVariants as s
use Rattle.tsdl_parser.specs.Symbols.{symbol_of}
use Rattle.tsdl_parser.specs.Reading.{MAX_BRACES}

-- a closing brace that nothing opened leaves none open
abbrev pub opened_by : ℕ → Symbol → ℕ
opened_by n s.OpenBrace = n + 1
opened_by n s.CloseBrace = n - 1
opened_by n _ = n

abbrev pub opened : List Token → ℕ
opened tokens = fold (λ n token. opened_by n (symbol_of token.kind)) 0 tokens

-- after this token, counted from 1, more braces are open than may be, and after none before it
pub record IsTooDeep (tokens : List Token) (token : ℕ) : Type 0 where
  pub within : token ≤ length tokens
  pub deep : MAX_BRACES < opened (take token tokens)
  pub first : (earlier : ℕ) → earlier < token → opened (take earlier tokens) ≤ MAX_BRACES

-- nowhere are more braces open than may be
abbrev pub IsShallow : List Token → Type 0
IsShallow tokens = (n : ℕ) → n ≤ length tokens → opened (take n tokens) ≤ MAX_BRACES
