-- The tokens of a text.
use Rattle.std.specs.Prelude.{◌≡◌, ℕ, ◌+◌, ◌-◌, ◌<◌, ◌≤◌, List, [], ◌∷◌, length, take, drop, Some}
use Rattle.tsdl_lex.specs.declared.token.Token.{Token}
use Rattle.tsdl_lex.specs.declared.lexeme.Lexeme.{Lexeme}
use Rattle.tsdl_lex.specs.declared.lexeme.Lexeme.TheVariants as lexeme
use Rattle.tsdl_lex.specs.Lexemes.{lexeme_of, IsFirst, IsNone}

-- a lexeme and its length in bytes
pub record Piece : Type 0 where
  pub len : ℕ
  pub lexeme : Lexeme

-- the text is these pieces, each the longest where it begins, and then a rest
abbrev pub Leads : List ℕ → List Piece → List ℕ → Type 0
Leads text [] rest = text ≡ rest
Leads text (p ∷ pieces) rest = IsFirst text p.len p.lexeme × Leads (drop p.len text) pieces rest

-- a token before others, or what is no token
abbrev pub with_token : Lexeme → ℕ → ℕ → List Token → List Token
with_token (lexeme.Token kind) start len tokens = (record { kind = kind; start = start; end = start + len }) ∷ tokens
with_token lexeme.Gap start len tokens = tokens

-- the tokens among pieces that begin at a place of the source
abbrev pub tokens_from : ℕ → List Piece → List Token
tokens_from start [] = []
tokens_from start (p ∷ pieces) = with_token p.lexeme start p.len (tokens_from (start + p.len) pieces)

-- the whole text is pieces, and these are its tokens
pub record IsTokens (text : List ℕ) (tokens : List Token) : Type 0 where
  pub pieces : List Piece
  pub leads : Leads text pieces []
  pub tokens_are : tokens ≡ tokens_from 0 pieces

-- after pieces, at this byte, no token, comment or space begins
pub record IsRefused (text : List ℕ) (at : ℕ) : Type 0 where
  pub pieces : List Piece
  pub rest : List ℕ
  pub leads : Leads text pieces rest
  pub some : 0 < length rest
  pub none : IsNone rest
  pub place : at + length rest ≡ length text

-- tokens lie in the text one after the other, from this byte on, and each is what its slice spells
abbrev pub AreSlices : List ℕ → ℕ → List Token → Type 0
AreSlices text from [] = from ≤ length text
AreSlices text from (t ∷ tokens) = (from ≤ t.start) × (t.start < t.end) × (lexeme_of (take (t.end - t.start) (drop t.start text)) ≡ Some (lexeme.Token t.kind)) × AreSlices text t.end tokens
