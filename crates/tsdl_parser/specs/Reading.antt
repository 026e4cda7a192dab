-- Reading declarations, token by token. The productions that this agrees with stand in Grammar.
use Rattle.std.specs.Prelude.{◌≡◌, ℕ, ℤ, pos, neg_ℤ, zero, suc, Bool, true, false, ◌||◌, ◌&&◌, if◌then◌else◌, List, [], ◌∷◌, ◌++◌, length, Option, Some, None, option_map, codes, Result, Ok, Err}
pub use Rattle.trace_types.specs.declared.limits.TheConstants.{MAX_BRACES}
use Rattle.tsdl_lex.specs.declared.token.Token.{Token}
use Rattle.tsdl_parser.specs.declared.symbol.Symbol.{Symbol}
use Rattle.tsdl_parser.specs.declared.symbol.Symbol.TheVariants as s
use Rattle.tsdl_parser.specs.declared.fault.Fault.{Fault}
use Rattle.tsdl_parser.specs.declared.fault.Fault.TheVariants.{Refused}
use Rattle.tsdl_parser.specs.declared.tree.Attr.{Attr}
use Rattle.tsdl_parser.specs.declared.tree.AttrValue.{AttrValue}
use Rattle.tsdl_parser.specs.declared.tree.AttrValue.TheVariants as value
use Rattle.tsdl_parser.specs.declared.tree.TypeTree.{TypeTree}
use Rattle.tsdl_parser.specs.declared.tree.TypeTree.TheVariants as ty
use Rattle.tsdl_parser.specs.declared.tree.StructTree.{StructTree, roll-StructTree}
use Rattle.tsdl_parser.specs.declared.tree.StructBody.{StructBody, roll-StructBody}
use Rattle.tsdl_parser.specs.declared.tree.VariantTree.{VariantTree, roll-VariantTree}
use Rattle.tsdl_parser.specs.declared.tree.FieldTree.{FieldTree, roll-FieldTree}
use Rattle.tsdl_parser.specs.declared.tree.EnumTree.{EnumTree}
use Rattle.tsdl_parser.specs.declared.tree.EnumBase.{EnumBase}
use Rattle.tsdl_parser.specs.declared.tree.EnumBase.TheVariants as base
use Rattle.tsdl_parser.specs.declared.tree.Label.{Label}
use Rattle.tsdl_parser.specs.declared.tree.Dim.{Dim}
use Rattle.tsdl_parser.specs.declared.tree.Dim.TheVariants as dim
use Rattle.tsdl_parser.specs.declared.tree.Entry.{Entry}
use Rattle.tsdl_parser.specs.declared.tree.Entry.TheVariants as entry_as
use Rattle.tsdl_parser.specs.declared.tree.BlockKind.{BlockKind}
use Rattle.tsdl_parser.specs.declared.tree.BlockKind.TheVariants as of_kind
use Rattle.tsdl_parser.specs.declared.tree.Item.{Item}
use Rattle.tsdl_parser.specs.declared.tree.Item.TheVariants as items
use Rattle.trace_types.specs.Texts.{is_text}
use Rattle.tsdl_parser.specs.Parsers.{Parser, ◌>>=◌, ◌>>◌, ◌<$>◌, pure, refuse, peek, skip, sees, eat, expect, if_seen, word_of, word, number, string, name, braced}

abbrev pub Text : Type 0
Text = List ℕ

-- ---- words, paths, values, attributes

unfoldable pub path_from : ℕ → List Text → Parser (List Text)
path_from zero found = pure found
path_from (suc n) found = do
  more ← eat s.Dot
  if more then (do w ← word; path_from n (found ++ w ∷ [])) else pure found

unfoldable pub path : Parser (List Text)
path = do
  first ← word
  λ ts. path_from (length ts) (first ∷ []) ts

unfoldable pub words_from : ℕ → List Text → Parser (List Text)
words_from zero found = pure found
words_from (suc n) found = λ ts. if sees s.Name ts then (word >>= (λ w. words_from n (found ++ w ∷ []))) ts else pure found ts

unfoldable pub words : Parser (List Text)
words = do
  first ← name
  λ ts. words_from (length ts) (first ∷ []) ts

unfoldable pub signed : Parser ℤ
signed = do
  minus ← eat s.Minus
  n ← number
  pure (if minus then neg_ℤ (pos n) else pos n)

unfoldable pub value_by : Symbol → Parser AttrValue
value_by s.Minus = value.Signed <$> signed
value_by s.Number = value.Signed <$> signed
value_by s.Str = value.Str <$> string
value_by _ = value.Path <$> path

unfoldable pub attr_value : Parser AttrValue
attr_value = peek >>= value_by

unfoldable pub attr : Parser Attr
attr = do
  place ← path
  expect s.Assign
  what ← attr_value
  expect s.Semicolon
  pure (record { path = place; value = what })

unfoldable pub attrs : Parser (List Attr)
attrs = braced attr

-- ---- enumerations

unfoldable pub label_name_by : Symbol → Parser Text
label_name_by s.Str = string
label_name_by _ = name

unfoldable pub label_name : Parser Text
label_name = peek >>= label_name_by

unfoldable pub range_end : Parser (Option ℤ)
range_end = if_seen s.Ellipsis (skip >> signed)

unfoldable pub label : Parser Label
label = do
  called ← label_name
  given ← eat s.Assign
  if given then (do low ← signed; high ← range_end; pure (record { name = called; low = Some low; high = high })) else pure (record { name = called; low = None; high = None })

-- after a label: the closing brace, maybe after a comma, or a comma and the next label
unfoldable pub labels_from : ℕ → List Label → Parser (List Label)
labels_from zero found = refuse
labels_from (suc n) found = do
  x ← label
  more ← eat s.Comma
  closed ← eat s.CloseBrace
  if closed then pure (found ++ x ∷ []) else (if more then labels_from n (found ++ x ∷ []) else refuse)

unfoldable pub labels : Parser (List Label)
labels = expect s.OpenBrace >> (λ ts. labels_from (length ts) [] ts)

unfoldable pub base_by : Symbol → Parser EnumBase
base_by s.Integer = skip >> base.Integer <$> attrs
base_by _ = base.Words <$> words

unfoldable pub enum_base : Parser EnumBase
enum_base = skip >> peek >>= base_by

abbrev pub is_some : {A : Type 0} → Option A → Bool
is_some None = false
is_some (Some a) = true

-- after its keyword
unfoldable pub enum_tree : Parser EnumTree
enum_tree = do
  called ← if_seen s.Name word
  of ← if_seen s.Colon enum_base
  found ← if_seen s.OpenBrace labels
  if is_some called || is_some found then pure (record { name = called; base = of; labels = found }) else refuse

-- ---- types

-- all but the last word, of which there is at least one, and the last
abbrev pub ends : Text → List Text → List Text × Text
ends w [] = ([], w)
ends w (v ∷ ws) = (w ∷ (ends v ws).0, (ends v ws).1)

abbrev pub last_of : List Text → Option (List Text × Text)
last_of [] = None
last_of (w ∷ []) = None
last_of (w ∷ v ∷ ws) = Some (ends w (v ∷ ws))

unfoldable pub last_apart : List Text → Parser (List Text × Text)
last_apart ws = λ ts. option_map (λ p. (p, ts)) (last_of ws)

-- what the last of words and those before it are taken for
abbrev pub Apart : List Text → Result (List Text × Text) Fault → Type 0
Apart ws (Ok p) = last_of ws ≡ Some p
Apart ws (Err e) = (last_of ws ≡ None) × (e ≡ Refused)

-- a list of words ends with the field's name
abbrev pub enum_named_by : EnumTree → Option EnumBase → Option (List Label) → Parser (EnumTree × Text)
enum_named_by e (Some (base.Words ws)) None = do
  p ← last_apart ws
  pure (record { name = e.name; base = Some (base.Words p.0); labels = None }, p.1)
enum_named_by e (Some (base.Words ws)) (Some ls) = (λ n. (e, n)) <$> name
enum_named_by e (Some (base.Integer list)) ls = (λ n. (e, n)) <$> name
enum_named_by e None ls = (λ n. (e, n)) <$> name

unfoldable pub enum_named : EnumTree → Parser (EnumTree × Text)
enum_named e = enum_named_by e e.base e.labels

unfoldable pub dim_by : Symbol → Parser Dim
dim_by s.Number = dim.Fixed <$> number
dim_by _ = dim.Path <$> path

unfoldable pub dim_of : Parser Dim
dim_of = do
  read ← peek >>= dim_by
  expect s.CloseBracket
  pure read

unfoldable pub dims_from : ℕ → List Dim → Parser (List Dim)
dims_from zero found = pure found
dims_from (suc n) found = do
  more ← eat s.OpenBracket
  if more then (do d ← dim_of; dims_from n (found ++ d ∷ [])) else pure found

unfoldable pub dims : Parser (List Dim)
dims = λ ts. dims_from (length ts) [] ts

abbrev pub is_align : Option Text → Bool
is_align None = false
is_align (Some word) = is_text word (codes "align")

-- `align(` comes next: after a body, `align` without a parenthesis is a field's name
abbrev pub sees_align : List Token → Bool
sees_align [] = false
sees_align (t ∷ ts) = is_align (word_of t.kind) && sees s.OpenParen ts

unfoldable pub align : Parser (Option ℕ)
align = λ ts. if sees_align ts then (skip >> skip >> number >>= (λ n. expect s.CloseParen >> pure (Some n))) ts else pure None ts

unfoldable pub tag : Parser (List Text)
tag = do
  skip
  read ← path
  expect s.Greater
  pure read

-- what a structure or a variant holds is read by a parser of fields
module _ (fields : Parser (List FieldTree)) where
  unfoldable pub struct_body : Parser StructBody
  struct_body = do
    all ← fields
    pure (roll-StructBody (record { fields = all; align = (← align) }))

  -- after its keyword
  unfoldable pub struct_tree : Parser StructTree
  struct_tree = do
    called ← if_seen s.Name word
    found ← if_seen s.OpenBrace struct_body
    if is_some called || is_some found then pure (roll-StructTree (record { name = called; body = found })) else refuse

  unfoldable pub variant_tree : Parser VariantTree
  variant_tree = do
    called ← if_seen s.Name word
    by ← if_seen s.Less tag
    found ← if_seen s.OpenBrace fields
    if is_some called || is_some found then pure (roll-VariantTree (record { name = called; tag = by; body = found })) else refuse

  unfoldable pub type_by : Symbol → Parser TypeTree
  type_by s.Integer = skip >> ty.Integer <$> attrs
  type_by s.FloatingPoint = skip >> ty.Float <$> attrs
  type_by s.String = skip >> ty.Str <$> if_seen s.OpenBrace attrs
  type_by s.Struct = skip >> ty.Struct <$> struct_tree
  type_by s.Variant = skip >> ty.Variant <$> variant_tree
  type_by s.Enum = skip >> ty.Enum <$> enum_tree
  type_by _ = ty.Words <$> words

  unfoldable pub type_tree : Parser TypeTree
  type_tree = peek >>= type_by

  -- a field's type and its name
  unfoldable pub typed_by : Symbol → Parser (TypeTree × Text)
  typed_by s.Name = (λ p. (ty.Words p.0, p.1)) <$> (words >>= last_apart)
  typed_by s.Enum = (λ p. (ty.Enum p.0, p.1)) <$> (skip >> enum_tree >>= enum_named)
  typed_by _ = do
    of ← type_tree
    called ← name
    pure (of, called)

  unfoldable pub typed : Parser (TypeTree × Text)
  typed = peek >>= typed_by

  unfoldable pub field : Parser FieldTree
  field = do
    what ← typed
    lengths ← dims
    expect s.Semicolon
    pure (roll-FieldTree (record { ty = what.0; name = what.1; dims = lengths }))

-- the fields of a structure or a variant in braces, which may hold so many further ones one in the other
unfoldable pub fields : ℕ → Parser (List FieldTree)
fields zero = refuse
fields (suc depth) = braced (field (fields depth))

-- ---- declarations

unfoldable pub entry : Parser Entry
entry = do
  place ← path
  given ← eat s.Assign
  if given
      then (do what ← attr_value; expect s.Semicolon; pure (entry_as.Assign (record { path = place; value = what })))
      else (do expect s.Declare; of ← type_tree (fields MAX_BRACES); expect s.Semicolon; pure (entry_as.Declare place of))

unfoldable pub entries : Parser (List Entry)
entries = braced entry

unfoldable pub block : BlockKind → Parser Item
block kind = (λ all. items.Block kind all) <$> (skip >> entries)

unfoldable pub alias : Parser Item
alias = do
  skip
  of ← type_tree (fields MAX_BRACES)
  expect s.Declare
  ws ← words
  pure (items.Alias of ws)

unfoldable pub item_by : Symbol → Parser Item
item_by s.Typealias = alias
item_by s.Struct = skip >> items.Struct <$> struct_tree (fields MAX_BRACES)
item_by s.Variant = skip >> items.Variant <$> variant_tree (fields MAX_BRACES)
item_by s.Enum = skip >> items.Enum <$> enum_tree
item_by s.Trace = block of_kind.Trace
item_by s.Stream = block of_kind.Stream
item_by s.Event = block of_kind.Event
item_by s.Clock = block of_kind.Clock
item_by s.Env = block of_kind.Env
item_by s.Callsite = block of_kind.Callsite
item_by _ = refuse

unfoldable pub declaration : Parser Item
declaration = peek >>= item_by

unfoldable pub item : Parser Item
item = do
  read ← declaration
  expect s.Semicolon
  pure read
