-- The grammar of TSDL (CTF 1.8, appendix C), by its productions: a part, the tokens from its first on, and those after it.
use Rattle.std.specs.Prelude.{◌≡◌, ◌⊎◌, ℕ, ℤ, pos, neg_ℤ, zero, suc, List, [], ◌∷◌, Option, Some, None, codes}
use Rattle.tsdl_lex.specs.declared.token.Token.{Token}
use Rattle.tsdl_lex.specs.declared.token.TokenKind.TheVariants as kind
use Rattle.tsdl_parser.specs.declared.symbol.Symbol.{Symbol}
use Rattle.tsdl_parser.specs.declared.symbol.Symbol.TheVariants as s
use Rattle.tsdl_parser.specs.declared.tree.Attr.{Attr}
use Rattle.tsdl_parser.specs.declared.tree.AttrValue.{AttrValue}
use Rattle.tsdl_parser.specs.declared.tree.AttrValue.TheVariants as value
use Rattle.tsdl_parser.specs.declared.tree.TypeTree.{TypeTree}
use Rattle.tsdl_parser.specs.declared.tree.TypeTree.TheVariants as ty
use Rattle.tsdl_parser.specs.declared.tree.StructTree.{StructTree, roll-StructTree}
use Rattle.tsdl_parser.specs.declared.tree.StructBody.{StructBody, roll-StructBody}
use Rattle.tsdl_parser.specs.declared.tree.VariantTree.{VariantTree, roll-VariantTree}
use Rattle.tsdl_parser.specs.declared.tree.FieldTree.{FieldTree, roll-FieldTree}
use Rattle.tsdl_parser.specs.declared.tree.EnumTree.{EnumTree}
use Rattle.tsdl_parser.specs.declared.tree.EnumBase.{EnumBase}
use Rattle.tsdl_parser.specs.declared.tree.EnumBase.TheVariants as base
use Rattle.tsdl_parser.specs.declared.tree.Label.{Label}
use Rattle.tsdl_parser.specs.declared.tree.Dim.{Dim}
use Rattle.tsdl_parser.specs.declared.tree.Dim.TheVariants as dim
use Rattle.tsdl_parser.specs.declared.tree.Entry.{Entry}
use Rattle.tsdl_parser.specs.declared.tree.Entry.TheVariants as entry_as
use Rattle.tsdl_parser.specs.declared.tree.BlockKind.{BlockKind}
use Rattle.tsdl_parser.specs.declared.tree.BlockKind.TheVariants as block_of
use Rattle.tsdl_parser.specs.declared.tree.Item.{Item}
use Rattle.tsdl_parser.specs.declared.tree.Item.TheVariants as items
use Rattle.tsdl_parser.specs.Symbols.{symbol_of, word_symbol}

abbrev pub Tokens : Type 0
Tokens = List Token

abbrev pub Text : Type 0
Text = List ℕ

-- ---- tokens

-- one token of this symbol
pub record Stands (symbol : Symbol) (ts rest : Tokens) : Type 0 where
  pub token : Token
  pub front : ts ≡ token ∷ rest
  pub is : symbol_of token.kind ≡ symbol

-- word
pub record IsWord (ts : Tokens) (word : Text) (rest : Tokens) : Type 0 where
  pub token : Token
  pub front : ts ≡ token ∷ rest
  pub is : token.kind ≡ kind.Word word

-- name := a word that is no keyword
pub record IsName (ts : Tokens) (name : Text) (rest : Tokens) : Type 0 where
  pub word : IsWord ts name rest
  pub no_keyword : word_symbol name ≡ s.Name

pub record IsNumber (ts : Tokens) (n : ℕ) (rest : Tokens) : Type 0 where
  pub token : Token
  pub front : ts ≡ token ∷ rest
  pub is : token.kind ≡ kind.Number n

pub record IsString (ts : Tokens) (text : Text) (rest : Tokens) : Type 0 where
  pub token : Token
  pub front : ts ≡ token ∷ rest
  pub is : token.kind ≡ kind.Str text

-- ---- parts one after the other

abbrev pub Part : Type 0 → Type 1
Part A = Tokens → A → Tokens → Type 0

-- part*
abbrev pub Each : {A : Type 0} → Part A → Part (List A)
Each P ts [] rest = ts ≡ rest
Each P ts (x ∷ xs) rest = (a : Tokens) × P ts x a × Each P a xs rest

-- part?
abbrev pub Maybe : {A : Type 0} → Part A → Part (Option A)
Maybe P ts None rest = ts ≡ rest
Maybe P ts (Some x) rest = P ts x rest

-- a symbol and a part after it
pub record Behind {A : Type 0} (symbol : Symbol) (P : Part A) (ts : Tokens) (x : A) (rest : Tokens) : Type 0 where
  pub a : Tokens
  pub opens : Stands symbol ts a
  pub part : P a x rest

-- a part between two symbols
pub record Between {A : Type 0} (open_with : Symbol) (P : Part A) (close_with : Symbol) (ts : Tokens) (x : A) (rest : Tokens) : Type 0 where
  pub a : Tokens
  pub b : Tokens
  pub opens : Stands open_with ts a
  pub part : P a x b
  pub closes : Stands close_with b rest

-- '{' part* '}'
abbrev pub Braced : {A : Type 0} → Part A → Part (List A)
Braced P = Between s.OpenBrace (Each P) s.CloseBrace

-- ---- words, paths, values, attributes

-- path := word ('.' word)*
abbrev pub IsPath : Part (List Text)
IsPath ts [] rest = ⊥
IsPath ts (w ∷ ws) rest = (a : Tokens) × IsWord ts w a × Each (Behind s.Dot IsWord) a ws rest

-- words := name+
abbrev pub IsWords : Part (List Text)
IsWords ts [] rest = ⊥
IsWords ts (w ∷ ws) rest = (a : Tokens) × IsName ts w a × Each IsName a ws rest

-- signed := '-'? number
abbrev pub IsPositive : Part ℤ
IsPositive ts z rest = (n : ℕ) × (z ≡ pos n) × IsNumber ts n rest

abbrev pub IsNegative : Part ℤ
IsNegative ts z rest = (n : ℕ) × (z ≡ neg_ℤ (pos n)) × IsNumber ts n rest

abbrev pub IsSigned : Part ℤ
IsSigned ts z rest = IsPositive ts z rest ⊎ Behind s.Minus IsNegative ts z rest

-- value := signed | string | path
abbrev pub IsValue : Part AttrValue
IsValue ts (value.Signed z) rest = IsSigned ts z rest
IsValue ts (value.Str text) rest = IsString ts text rest
IsValue ts (value.Path words) rest = IsPath ts words rest

-- path '=' value ';'
pub record IsAttr (ts : Tokens) (attr : Attr) (rest : Tokens) : Type 0 where
  pub a : Tokens
  pub path_is : IsPath ts attr.path a
  pub value_is : Between s.Assign IsValue s.Semicolon a attr.value rest

-- attrs := '{' (path '=' value ';')* '}'
abbrev pub IsAttrs : Part (List Attr)
IsAttrs = Braced IsAttr

-- ---- enumerations

-- name | string
abbrev pub IsLabelName : Part Text
IsLabelName ts text rest = IsName ts text rest ⊎ IsString ts text rest

-- '=' signed ('...' signed)?
pub record IsRange (ts : Tokens) (low : ℤ) (high : Option ℤ) (rest : Tokens) : Type 0 where
  pub a : Tokens
  pub low_is : Behind s.Assign IsSigned ts low a
  pub high_is : Maybe (Behind s.Ellipsis IsSigned) a high rest

abbrev pub IsRangeIfAny : Tokens → Option ℤ → Option ℤ → Tokens → Type 0
IsRangeIfAny ts None None rest = ts ≡ rest
IsRangeIfAny ts None (Some high) rest = ⊥
IsRangeIfAny ts (Some low) high rest = IsRange ts low high rest

-- label := (name | string) ('=' signed ('...' signed)?)?
pub record IsLabel (ts : Tokens) (label : Label) (rest : Tokens) : Type 0 where
  pub a : Tokens
  pub name_is : IsLabelName ts label.name a
  pub range_is : IsRangeIfAny a label.low label.high rest

-- label (',' label)* ','?
abbrev pub AreMoreLabels : Part (List Label)
AreMoreLabels ts [] rest = (ts ≡ rest) ⊎ Stands s.Comma ts rest
AreMoreLabels ts (l ∷ ls) rest = (a : Tokens) × Behind s.Comma IsLabel ts l a × AreMoreLabels a ls rest

abbrev pub AreLabels : Part (List Label)
AreLabels ts [] rest = ⊥
AreLabels ts (l ∷ ls) rest = (a : Tokens) × IsLabel ts l a × AreMoreLabels a ls rest

-- 'integer' attrs | words
abbrev pub IsBase : Part EnumBase
IsBase ts (base.Integer attrs) rest = Behind s.Integer IsAttrs ts attrs rest
IsBase ts (base.Words names) rest = IsWords ts names rest

abbrev pub HasOne : {A B : Type 0} → Option A → Option B → Type 0
HasOne None None = ⊥
HasOne None (Some b) = Unit {0}
HasOne (Some a) o = Unit {0}

-- enum := 'enum' name? (':' ('integer' attrs | words))? ('{' label (',' label)* ','? '}')?, after its keyword; it has a name or labels
pub record IsEnum (ts : Tokens) (tree : EnumTree) (rest : Tokens) : Type 0 where
  pub a : Tokens
  pub b : Tokens
  pub name_is : Maybe IsName ts tree.name a
  pub base_is : Maybe (Behind s.Colon IsBase) a tree.base b
  pub labels_are : Maybe (Between s.OpenBrace AreLabels s.CloseBrace) b tree.labels rest
  pub some : HasOne tree.name tree.labels

-- ---- types

-- number | path
abbrev pub IsDim : Part Dim
IsDim ts (dim.Fixed n) rest = IsNumber ts n rest
IsDim ts (dim.Path words) rest = IsPath ts words rest

-- ('[' (number | path) ']')*
abbrev pub AreDims : Part (List Dim)
AreDims = Each (Between s.OpenBracket IsDim s.CloseBracket)

-- 'align' '(' number ')'
pub record IsAlign (ts : Tokens) (n : ℕ) (rest : Tokens) : Type 0 where
  pub a : Tokens
  pub word_is : IsWord ts (codes "align") a
  pub number_is : Between s.OpenParen IsNumber s.CloseParen a n rest

-- where it is known which tokens are the fields of a structure or a variant, in their braces
module _ (IsFields : Part (List FieldTree)) where
  -- '{' field* '}' ('align' '(' number ')')?
  pub record IsBody (ts : Tokens) (body : StructBody) (rest : Tokens) : Type 0 where
    pub a : Tokens
    pub all : List FieldTree
    pub align : Option ℕ
    pub fields : IsFields ts all a
    pub align_is : Maybe IsAlign a align rest
    pub is : body ≡ roll-StructBody (record { fields = all; align = align })

  -- struct := 'struct' name? ('{' field* '}' ('align' '(' number ')')?)?, after its keyword; it has a name or a body
  pub record IsStruct (ts : Tokens) (tree : StructTree) (rest : Tokens) : Type 0 where
    pub a : Tokens
    pub name : Option Text
    pub body : Option StructBody
    pub name_is : Maybe IsName ts name a
    pub body_is : Maybe IsBody a body rest
    pub some : HasOne name body
    pub is : tree ≡ roll-StructTree (record { name = name; body = body })

  -- variant := 'variant' name? ('<' path '>')? ('{' field* '}')?, after its keyword; it has a name or a body
  pub record IsVariant (ts : Tokens) (tree : VariantTree) (rest : Tokens) : Type 0 where
    pub a : Tokens
    pub b : Tokens
    pub name : Option Text
    pub tag : Option (List Text)
    pub body : Option (List FieldTree)
    pub name_is : Maybe IsName ts name a
    pub tag_is : Maybe (Between s.Less IsPath s.Greater) a tag b
    pub body_is : Maybe IsFields b body rest
    pub some : HasOne name body
    pub is : tree ≡ roll-VariantTree (record { name = name; tag = tag; body = body })

  -- type := 'integer' attrs | 'floating_point' attrs | 'string' attrs? | struct | variant | enum | words
  pub data IsType : Tokens → TypeTree → Tokens → Type 0 where
    integer : (ts : Tokens) (attrs : List Attr) (rest : Tokens) → Behind s.Integer IsAttrs ts attrs rest → IsType ts (ty.Integer attrs) rest
    float : (ts : Tokens) (attrs : List Attr) (rest : Tokens) → Behind s.FloatingPoint IsAttrs ts attrs rest → IsType ts (ty.Float attrs) rest
    string_type : (ts : Tokens) (attrs : Option (List Attr)) (rest : Tokens) → Behind s.String (Maybe IsAttrs) ts attrs rest → IsType ts (ty.Str attrs) rest
    struct : (ts : Tokens) (tree : StructTree) (rest : Tokens) → Behind s.Struct IsStruct ts tree rest → IsType ts (ty.Struct tree) rest
    variant : (ts : Tokens) (tree : VariantTree) (rest : Tokens) → Behind s.Variant IsVariant ts tree rest → IsType ts (ty.Variant tree) rest
    enum : (ts : Tokens) (tree : EnumTree) (rest : Tokens) → Behind s.Enum IsEnum ts tree rest → IsType ts (ty.Enum tree) rest
    words_type : (ts : Tokens) (names : List Text) (rest : Tokens) → IsWords ts names rest → IsType ts (ty.Words names) rest

  -- field := type name ('[' (number | path) ']')* ';'
  pub record IsField (ts : Tokens) (field : FieldTree) (rest : Tokens) : Type 0 where
    pub a : Tokens
    pub b : Tokens
    pub c : Tokens
    pub of : TypeTree
    pub called : Text
    pub dims : List Dim
    pub type_is : IsType ts of a
    pub name_is : IsName a called b
    pub dims_are : AreDims b dims c
    pub semicolon : Stands s.Semicolon c rest
    pub is : field ≡ roll-FieldTree (record { ty = of; name = called; dims = dims })

-- '{' field* '}', where at most so many braces of fields are open at once
abbrev pub IsFieldsWithin : ℕ → Part (List FieldTree)
IsFieldsWithin zero ts all rest = ⊥
IsFieldsWithin (suc depth) ts all rest = Braced (IsField (IsFieldsWithin depth)) ts all rest

-- ---- declarations

abbrev pub keyword_of : BlockKind → Symbol
keyword_of block_of.Trace = s.Trace
keyword_of block_of.Stream = s.Stream
keyword_of block_of.Event = s.Event
keyword_of block_of.Clock = s.Clock
keyword_of block_of.Env = s.Env
keyword_of block_of.Callsite = s.Callsite

module _ (IsFields : Part (List FieldTree)) where
  -- path ':=' type ';'
  pub record IsDeclare (ts : Tokens) (path : List Text) (of : TypeTree) (rest : Tokens) : Type 0 where
    pub a : Tokens
    pub path_is : IsPath ts path a
    pub type_is : Between s.Declare (IsType IsFields) s.Semicolon a of rest

  -- entry := path '=' value ';' | path ':=' type ';'
  abbrev pub IsEntry : Part Entry
  IsEntry ts (entry_as.Assign attr) rest = IsAttr ts attr rest
  IsEntry ts (entry_as.Declare path of) rest = IsDeclare ts path of rest

  -- 'typealias' type ':=' words
  pub record IsAlias (ts : Tokens) (of : TypeTree) (names : List Text) (rest : Tokens) : Type 0 where
    pub a : Tokens
    pub type_is : Between s.Typealias (IsType IsFields) s.Declare ts of a
    pub words : IsWords a names rest

  -- 'typealias' type ':=' words | struct | variant | enum | block
  abbrev pub IsDeclaration : Part Item
  IsDeclaration ts (items.Alias of names) rest = IsAlias ts of names rest
  IsDeclaration ts (items.Struct tree) rest = Behind s.Struct (IsStruct IsFields) ts tree rest
  IsDeclaration ts (items.Variant tree) rest = Behind s.Variant (IsVariant IsFields) ts tree rest
  IsDeclaration ts (items.Enum tree) rest = Behind s.Enum IsEnum ts tree rest
  IsDeclaration ts (items.Block kind entries) rest = Behind (keyword_of kind) (Braced IsEntry) ts entries rest

  -- item := declaration ';'
  pub record IsItemWith (ts : Tokens) (item : Item) (rest : Tokens) : Type 0 where
    pub a : Tokens
    pub declaration : IsDeclaration ts item a
    pub semicolon : Stands s.Semicolon a rest

-- an item, whose structures and variants stand in one another however deep
abbrev pub IsItem : Part Item
IsItem ts item rest = (depth : ℕ) × IsItemWith (IsFieldsWithin depth) ts item rest
