-- The declarations of a whole text.
use Rattle.std.specs.Prelude.{◌≡◌, ℕ, ◌+◌, ◌<◌, List, [], ◌∷◌, length}
use Rattle.tsdl_parser.specs.declared.tree.Decl.{Decl}
use Rattle.tsdl_parser.specs.declared.tree.Item.{Item}
use Rattle.tsdl_parser.specs.Grammar.{Tokens, IsItem}
use Rattle.tsdl_parser.specs.Depth.{IsShallow}

-- of so many tokens, the last ones begin with these declarations, each at its first token's place, and leave a rest
abbrev pub Leads : ℕ → Tokens → List Decl → Tokens → Type 0
Leads total ts [] rest = ts ≡ rest
Leads total ts (d ∷ decls) rest = (after : Tokens) × IsItem ts d.item after × (d.first + length ts ≡ total) × Leads total after decls rest

-- text := item*
pub record IsParsed (tokens : Tokens) (decls : List Decl) : Type 0 where
  pub shallow : IsShallow tokens
  pub leads : Leads (length tokens) tokens decls []

-- after the items before it, no item begins where this one, counted from 1, would
pub record IsRefused (tokens : Tokens) (item : ℕ) : Type 0 where
  pub shallow : IsShallow tokens
  pub decls : List Decl
  pub rest : Tokens
  pub leads : Leads (length tokens) tokens decls rest
  pub some : 0 < length rest
  pub none : (i : Item) (after : Tokens) → ¬ (IsItem rest i after)
  pub number : item ≡ length decls + 1
