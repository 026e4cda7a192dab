-- What a part of the grammar leaves: fewer tokens, at whose front no more braces are open.
use Rattle.std.proofs.Common.{codes, ◌≡◌, inl, inr, ℕ, ℤ, zero, suc, ◌+◌, ◌-◌, ◌<◌, ◌≤◌, List, [], ◌∷◌, length, Option, Some, None, refl, ap, ◌∙◌, subst, arith}
use Rattle.tsdl_lex.specs.declared.token.Token.{Token}
use Rattle.tsdl_parser.specs.declared.symbol.Symbol.{Symbol}
use Rattle.tsdl_parser.specs.declared.symbol.Symbol.TheVariants as s
use Rattle.tsdl_parser.specs.declared.tree.Attr.{Attr}
use Rattle.tsdl_parser.specs.declared.tree.AttrValue.{AttrValue}
use Rattle.tsdl_parser.specs.declared.tree.AttrValue.TheVariants as value
use Rattle.tsdl_parser.specs.declared.tree.TypeTree.{TypeTree}
use Rattle.tsdl_parser.specs.declared.tree.StructTree.{StructTree}
use Rattle.tsdl_parser.specs.declared.tree.StructBody.{StructBody}
use Rattle.tsdl_parser.specs.declared.tree.VariantTree.{VariantTree}
use Rattle.tsdl_parser.specs.declared.tree.FieldTree.{FieldTree}
use Rattle.tsdl_parser.specs.declared.tree.EnumTree.{EnumTree}
use Rattle.tsdl_parser.specs.declared.tree.EnumBase.{EnumBase}
use Rattle.tsdl_parser.specs.declared.tree.EnumBase.TheVariants as base
use Rattle.tsdl_parser.specs.declared.tree.Label.{Label}
use Rattle.tsdl_parser.specs.declared.tree.Dim.{Dim}
use Rattle.tsdl_parser.specs.declared.tree.Dim.TheVariants as dim
use Rattle.tsdl_parser.specs.declared.tree.Entry.{Entry}
use Rattle.tsdl_parser.specs.declared.tree.Entry.TheVariants as entry_as
use Rattle.tsdl_parser.specs.declared.tree.BlockKind.{BlockKind}
use Rattle.tsdl_parser.specs.declared.tree.BlockKind.TheVariants as block_of
use Rattle.tsdl_parser.specs.declared.tree.Item.{Item}
use Rattle.tsdl_parser.specs.declared.tree.Item.TheVariants as items
use Rattle.tsdl_parser.specs.Symbols.{symbol_of, word_symbol}
use Rattle.tsdl_parser.specs.Reading.{MAX_BRACES}
use Rattle.tsdl_parser.specs.Depth.{opened_by}
use Rattle.tsdl_parser.specs.Grammar.{Tokens, Text, Stands, IsWord, IsName, IsNumber, IsString, Part, Each, Maybe, Behind, Between, Braced, IsPath, IsWords, IsNegative, IsSigned, IsValue, IsAttr, IsAttrs, IsLabelName, IsRangeIfAny, IsLabel, AreMoreLabels, AreLabels, IsBase, IsEnum, IsDim, AreDims, IsAlign, IsBody, IsStruct, IsVariant, IsType, integer, float, string_type, struct, variant, enum, words_type, IsField, IsFieldsWithin, IsEntry, keyword_of, IsDeclaration, IsItemWith}
use Rattle.tsdl_parser.proofs.Steps.{word_cases}

-- with so many braces open at the front, never more than may be
abbrev pub Fits : ℕ → Tokens → Type 0
Fits n [] = n ≤ MAX_BRACES
Fits n (t ∷ ts) = (n ≤ MAX_BRACES) × Fits (opened_by n (symbol_of t.kind)) ts

pub fits_here : (n : ℕ) (ts : Tokens) → Fits n ts → n ≤ MAX_BRACES
fits_here n [] h = h
fits_here n (t ∷ ts) h = h.0

pub record Passes (ts rest : Tokens) : Type 0 where
  pub less : length rest < length ts
  pub fits : (n : ℕ) → Fits n ts → Fits n rest

pub record Keeps (ts rest : Tokens) : Type 0 where
  pub less : length rest ≤ length ts
  pub fits : (n : ℕ) → Fits n ts → Fits n rest

pub weak : (ts rest : Tokens) → Passes ts rest → Keeps ts rest
weak ts rest p = record { less = let l = p.less in omega (arith, l); fits = p.fits }

nothing : (ts rest : Tokens) → ts ≡ rest → Keeps ts rest
nothing ts rest e = record { less = let l : length ts ≡ length rest = ap length e in omega (arith, l); fits = λ n h. subst (Fits n) e h }

then : (ts a rest : Tokens) → Passes ts a → Keeps a rest → Passes ts rest
then ts a rest p q = record { less = let l = p.less in let m = q.less in omega (arith, l, m); fits = λ n h. q.fits n (p.fits n h) }

both : (ts a rest : Tokens) → Keeps ts a → Keeps a rest → Keeps ts rest
both ts a rest p q = record { less = let l = p.less in let m = q.less in omega (arith, l, m); fits = λ n h. q.fits n (p.fits n h) }

behind_weak : (ts a rest : Tokens) → Keeps ts a → Passes a rest → Passes ts rest
behind_weak ts a rest p q = record { less = let l = p.less in let m = q.less in omega (arith, l, m); fits = λ n h. q.fits n (p.fits n h) }

-- one token that is no brace
one_token : (ts rest : Tokens) (t : Token) (symbol : Symbol) → ts ≡ t ∷ rest → symbol_of t.kind ≡ symbol → ((n : ℕ) → opened_by n symbol ≡ n) → Passes ts rest
one_token ts rest t symbol front is flat = record {
  less = let l : length ts ≡ suc (length rest) = ap length front in omega (arith, l);
  fits = λ n h. subst (λ k. Fits k rest) (ap (opened_by n) is ∙ flat n) (subst (Fits n) front h).1;
}

pub stands : (symbol : Symbol) (ts rest : Tokens) → ((n : ℕ) → opened_by n symbol ≡ n) → Stands symbol ts rest → Passes ts rest
stands symbol ts rest flat h = one_token ts rest h.token symbol h.front h.is flat

-- a keyword or a name is no brace
word_flat : (w : Text) (n : ℕ) → opened_by n (word_symbol w) ≡ n
word_flat w n = word_cases (λ x. opened_by n x ≡ n) refl refl refl refl refl refl refl refl refl refl refl refl refl refl w

pub word_passes : (ts rest : Tokens) (w : Text) → IsWord ts w rest → Passes ts rest
word_passes ts rest w h = one_token ts rest h.token (word_symbol w) h.front (ap symbol_of h.is) (word_flat w)

pub name_passes : (ts : Tokens) (w : Text) (rest : Tokens) → IsName ts w rest → Passes ts rest
name_passes ts w rest h = word_passes ts rest w h.word

pub number_passes : (ts : Tokens) (n : ℕ) (rest : Tokens) → IsNumber ts n rest → Passes ts rest
number_passes ts n rest h = one_token ts rest h.token s.Number h.front (ap symbol_of h.is) (λ n. refl)

pub string_passes : (ts : Tokens) (text : Text) (rest : Tokens) → IsString ts text rest → Passes ts rest
string_passes ts text rest h = one_token ts rest h.token s.Str h.front (ap symbol_of h.is) (λ n. refl)

-- ---- parts one after the other

module _ {A : Type 0} (P : Part A) where
  pub each_keeps : ((ts : Tokens) (x : A) (rest : Tokens) → P ts x rest → Passes ts rest) → (ts : Tokens) (xs : List A) (rest : Tokens) → Each P ts xs rest → Keeps ts rest
  each_keeps one ts [] rest h = nothing ts rest h
  each_keeps one ts (x ∷ xs) rest h = both ts h.0 rest (weak ts h.0 (one ts x h.0 h.1)) (each_keeps one h.0 xs rest h.2)

  pub maybe_keeps : ((ts : Tokens) (x : A) (rest : Tokens) → P ts x rest → Passes ts rest) → (ts : Tokens) (o : Option A) (rest : Tokens) → Maybe P ts o rest → Keeps ts rest
  maybe_keeps one ts None rest h = nothing ts rest h
  maybe_keeps one ts (Some x) rest h = weak ts rest (one ts x rest h)

  pub behind_passes : (symbol : Symbol) → ((n : ℕ) → opened_by n symbol ≡ n) → ((ts : Tokens) (x : A) (rest : Tokens) → P ts x rest → Keeps ts rest) → (ts : Tokens) (x : A) (rest : Tokens) → Behind symbol P ts x rest → Passes ts rest
  behind_passes symbol flat one ts x rest h = then ts h.a rest (stands symbol ts h.a flat h.opens) (one h.a x rest h.part)

  pub between_passes : (first last : Symbol) → ((n : ℕ) → opened_by n first ≡ n) → ((n : ℕ) → opened_by n last ≡ n) → ((ts : Tokens) (x : A) (rest : Tokens) → P ts x rest → Keeps ts rest) → (ts : Tokens) (x : A) (rest : Tokens) → Between first P last ts x rest → Passes ts rest
  between_passes first last flat flat' one ts x rest h = then ts h.a rest (stands first ts h.a flat h.opens) (both h.a h.b rest (one h.a x h.b h.part) (weak h.b rest (stands last h.b rest flat' h.closes)))

  -- braces that are opened are closed
  pub braces_pass : ((ts : Tokens) (x : A) (rest : Tokens) → P ts x rest → Keeps ts rest) → (ts : Tokens) (x : A) (rest : Tokens) → Between s.OpenBrace P s.CloseBrace ts x rest → Passes ts rest
  braces_pass one ts x rest h = record {
    less = let l : length ts ≡ suc (length h.a) = ap length h.opens.front in let m = (one h.a x h.b h.part).less in let o : length h.b ≡ suc (length rest) = ap length h.closes.front in omega (arith, l, m, o);
    fits = λ n f.
        let inner : Fits (n + 1) h.a = subst (λ y. Fits (opened_by n y) h.a) h.opens.is (subst (Fits n) h.opens.front f).1 in
        let last : Fits (n + 1 - 1) rest = subst (λ y. Fits (opened_by (n + 1) y) rest) h.closes.is (subst (Fits (n + 1)) h.closes.front ((one h.a x h.b h.part).fits (n + 1) inner)).1 in
        let same : n + 1 - 1 ≡ n = omega arith in
        subst (λ k. Fits k rest) same last;
  }

pub braced_passes : {A : Type 0} (P : Part A) → ((ts : Tokens) (x : A) (rest : Tokens) → P ts x rest → Passes ts rest) → (ts : Tokens) (xs : List A) (rest : Tokens) → Braced P ts xs rest → Passes ts rest
braced_passes P one ts xs rest h = braces_pass (Each P) (each_keeps P one) ts xs rest h

-- ---- the productions

pub path_passes : (ts : Tokens) (ws : List Text) (rest : Tokens) → IsPath ts ws rest → Passes ts rest
path_passes ts [] rest h = absurd h
path_passes ts (w ∷ ws) rest h = then ts h.0 rest (word_passes ts h.0 w h.1) (each_keeps (Behind s.Dot IsWord) (behind_passes IsWord s.Dot (λ n. refl) (λ ts w rest i. weak ts rest (word_passes ts rest w i))) h.0 ws rest h.2)

pub words_pass : (ts : Tokens) (ws : List Text) (rest : Tokens) → IsWords ts ws rest → Passes ts rest
words_pass ts [] rest h = absurd h
words_pass ts (w ∷ ws) rest h = then ts h.0 rest (name_passes ts w h.0 h.1) (each_keeps IsName name_passes h.0 ws rest h.2)

pub signed_passes : (ts : Tokens) (z : ℤ) (rest : Tokens) → IsSigned ts z rest → Passes ts rest
signed_passes ts z rest (inl h) = number_passes ts h.0 rest h.2
signed_passes ts z rest (inr h) = behind_passes IsNegative s.Minus (λ n. refl) (λ ts z rest i. weak ts rest (number_passes ts i.0 rest i.2)) ts z rest h

pub value_passes : (ts : Tokens) (v : AttrValue) (rest : Tokens) → IsValue ts v rest → Passes ts rest
value_passes ts (value.Signed z) rest h = signed_passes ts z rest h
value_passes ts (value.Str text) rest h = string_passes ts text rest h
value_passes ts (value.Path ws) rest h = path_passes ts ws rest h

pub attr_passes : (ts : Tokens) (x : Attr) (rest : Tokens) → IsAttr ts x rest → Passes ts rest
attr_passes ts x rest h = then ts h.a rest (path_passes ts x.path h.a h.path_is) (weak h.a rest (between_passes IsValue s.Assign s.Semicolon (λ n. refl) (λ n. refl) (λ ts v rest i. weak ts rest (value_passes ts v rest i)) h.a x.value rest h.value_is))

pub attrs_pass : (ts : Tokens) (xs : List Attr) (rest : Tokens) → IsAttrs ts xs rest → Passes ts rest
attrs_pass = braced_passes IsAttr attr_passes

label_name_passes : (ts : Tokens) (text : Text) (rest : Tokens) → IsLabelName ts text rest → Passes ts rest
label_name_passes ts text rest (inl h) = name_passes ts text rest h
label_name_passes ts text rest (inr h) = string_passes ts text rest h

signed_keeps : (ts : Tokens) (z : ℤ) (rest : Tokens) → IsSigned ts z rest → Keeps ts rest
signed_keeps ts z rest h = weak ts rest (signed_passes ts z rest h)

range_keeps : (ts : Tokens) (low high : Option ℤ) (rest : Tokens) → IsRangeIfAny ts low high rest → Keeps ts rest
range_keeps ts None None rest h = nothing ts rest h
range_keeps ts None (Some z) rest h = absurd h
range_keeps ts (Some z) high rest h = both ts h.a rest (weak ts h.a (behind_passes IsSigned s.Assign (λ n. refl) signed_keeps ts z h.a h.low_is)) (maybe_keeps (Behind s.Ellipsis IsSigned) (behind_passes IsSigned s.Ellipsis (λ n. refl) signed_keeps) h.a high rest h.high_is)

pub label_passes : (ts : Tokens) (l : Label) (rest : Tokens) → IsLabel ts l rest → Passes ts rest
label_passes ts l rest h = then ts h.a rest (label_name_passes ts l.name h.a h.name_is) (range_keeps h.a l.low l.high rest h.range_is)

pub comma_label_passes : (ts : Tokens) (l : Label) (rest : Tokens) → Behind s.Comma IsLabel ts l rest → Passes ts rest
comma_label_passes = behind_passes IsLabel s.Comma (λ n. refl) (λ ts l rest i. weak ts rest (label_passes ts l rest i))

more_labels_keep : (ts : Tokens) (ls : List Label) (rest : Tokens) → AreMoreLabels ts ls rest → Keeps ts rest
more_labels_keep ts [] rest (inl h) = nothing ts rest h
more_labels_keep ts [] rest (inr h) = weak ts rest (stands s.Comma ts rest (λ n. refl) h)
more_labels_keep ts (l ∷ ls) rest h = both ts h.0 rest (weak ts h.0 (comma_label_passes ts l h.0 h.1)) (more_labels_keep h.0 ls rest h.2)

labels_pass : (ts : Tokens) (ls : List Label) (rest : Tokens) → AreLabels ts ls rest → Passes ts rest
labels_pass ts [] rest h = absurd h
labels_pass ts (l ∷ ls) rest h = then ts h.0 rest (label_passes ts l h.0 h.1) (more_labels_keep h.0 ls rest h.2)

base_passes : (ts : Tokens) (b : EnumBase) (rest : Tokens) → IsBase ts b rest → Passes ts rest
base_passes ts (base.Integer xs) rest h = behind_passes IsAttrs s.Integer (λ n. refl) (λ ts xs rest i. weak ts rest (attrs_pass ts xs rest i)) ts xs rest h
base_passes ts (base.Words ws) rest h = words_pass ts ws rest h

pub enum_keeps : (ts : Tokens) (e : EnumTree) (rest : Tokens) → IsEnum ts e rest → Keeps ts rest
enum_keeps ts e rest h =
    both ts h.a rest (maybe_keeps IsName name_passes ts e.name h.a h.name_is)
    (both h.a h.b rest (maybe_keeps (Behind s.Colon IsBase) (behind_passes IsBase s.Colon (λ n. refl) (λ ts b rest i. weak ts rest (base_passes ts b rest i))) h.a e.base h.b h.base_is)
    (maybe_keeps (Between s.OpenBrace AreLabels s.CloseBrace) (braces_pass AreLabels (λ ts ls rest i. weak ts rest (labels_pass ts ls rest i))) h.b e.labels rest h.labels_are))

dim_passes : (ts : Tokens) (d : Dim) (rest : Tokens) → IsDim ts d rest → Passes ts rest
dim_passes ts (dim.Fixed n) rest h = number_passes ts n rest h
dim_passes ts (dim.Path ws) rest h = path_passes ts ws rest h

pub boxed_dim_passes : (ts : Tokens) (d : Dim) (rest : Tokens) → Between s.OpenBracket IsDim s.CloseBracket ts d rest → Passes ts rest
boxed_dim_passes = between_passes IsDim s.OpenBracket s.CloseBracket (λ n. refl) (λ n. refl) (λ ts d rest i. weak ts rest (dim_passes ts d rest i))

pub dims_keep : (ts : Tokens) (ds : List Dim) (rest : Tokens) → AreDims ts ds rest → Keeps ts rest
dims_keep = each_keeps (Between s.OpenBracket IsDim s.CloseBracket) boxed_dim_passes

align_passes : (ts : Tokens) (n : ℕ) (rest : Tokens) → IsAlign ts n rest → Passes ts rest
align_passes ts n rest h = then ts h.a rest (word_passes ts h.a (codes "align") h.word_is) (weak h.a rest (between_passes IsNumber s.OpenParen s.CloseParen (λ n. refl) (λ n. refl) (λ ts n rest i. weak ts rest (number_passes ts n rest i)) h.a n rest h.number_is))

module _ (IsFields : Part (List FieldTree)) (fields_pass : (ts : Tokens) (fs : List FieldTree) (rest : Tokens) → IsFields ts fs rest → Passes ts rest) where
  pub body_passes : (ts : Tokens) (b : StructBody) (rest : Tokens) → IsBody IsFields ts b rest → Passes ts rest
  body_passes ts b rest h = then ts h.a rest (fields_pass ts h.all h.a h.fields) (maybe_keeps IsAlign align_passes h.a h.align rest h.align_is)

  pub struct_keeps : (ts : Tokens) (t : StructTree) (rest : Tokens) → IsStruct IsFields ts t rest → Keeps ts rest
  struct_keeps ts t rest h = both ts h.a rest (maybe_keeps IsName name_passes ts h.name h.a h.name_is) (maybe_keeps (IsBody IsFields) body_passes h.a h.body rest h.body_is)

  pub variant_keeps : (ts : Tokens) (t : VariantTree) (rest : Tokens) → IsVariant IsFields ts t rest → Keeps ts rest
  variant_keeps ts t rest h =
      both ts h.a rest (maybe_keeps IsName name_passes ts h.name h.a h.name_is)
      (both h.a h.b rest (maybe_keeps (Between s.Less IsPath s.Greater) (between_passes IsPath s.Less s.Greater (λ n. refl) (λ n. refl) (λ ts ws rest i. weak ts rest (path_passes ts ws rest i))) h.a h.tag h.b h.tag_is)
      (maybe_keeps IsFields fields_pass h.b h.body rest h.body_is))

  pub type_passes : (ts : Tokens) (t : TypeTree) (rest : Tokens) → IsType IsFields ts t rest → Passes ts rest
  type_passes ts t rest (integer ts' xs rest' h) = behind_passes IsAttrs s.Integer (λ n. refl) (λ ts xs rest i. weak ts rest (attrs_pass ts xs rest i)) ts xs rest h
  type_passes ts t rest (float ts' xs rest' h) = behind_passes IsAttrs s.FloatingPoint (λ n. refl) (λ ts xs rest i. weak ts rest (attrs_pass ts xs rest i)) ts xs rest h
  type_passes ts t rest (string_type ts' xs rest' h) = behind_passes (Maybe IsAttrs) s.String (λ n. refl) (maybe_keeps IsAttrs attrs_pass) ts xs rest h
  type_passes ts t rest (struct ts' x rest' h) = behind_passes (IsStruct IsFields) s.Struct (λ n. refl) struct_keeps ts x rest h
  type_passes ts t rest (variant ts' x rest' h) = behind_passes (IsVariant IsFields) s.Variant (λ n. refl) variant_keeps ts x rest h
  type_passes ts t rest (enum ts' x rest' h) = behind_passes IsEnum s.Enum (λ n. refl) enum_keeps ts x rest h
  type_passes ts t rest (words_type ts' ws rest' h) = words_pass ts ws rest h

  pub field_passes : (ts : Tokens) (f : FieldTree) (rest : Tokens) → IsField IsFields ts f rest → Passes ts rest
  field_passes ts f rest h =
      then ts h.a rest (type_passes ts h.of h.a h.type_is)
      (both h.a h.b rest (weak h.a h.b (name_passes h.a h.called h.b h.name_is))
      (both h.b h.c rest (dims_keep h.b h.dims h.c h.dims_are) (weak h.c rest (stands s.Semicolon h.c rest (λ n. refl) h.semicolon))))

  pub entry_passes : (ts : Tokens) (e : Entry) (rest : Tokens) → IsEntry IsFields ts e rest → Passes ts rest
  entry_passes ts (entry_as.Assign x) rest h = attr_passes ts x rest h
  entry_passes ts (entry_as.Declare p t) rest h = then ts h.a rest (path_passes ts p h.a h.path_is) (weak h.a rest (between_passes (IsType IsFields) s.Declare s.Semicolon (λ n. refl) (λ n. refl) (λ ts t rest i. weak ts rest (type_passes ts t rest i)) h.a t rest h.type_is))

  declaration_passes : (ts : Tokens) (i : Item) (rest : Tokens) → IsDeclaration IsFields ts i rest → Passes ts rest
  declaration_passes ts (items.Alias t ws) rest h = then ts h.a rest (between_passes (IsType IsFields) s.Typealias s.Declare (λ n. refl) (λ n. refl) (λ ts t rest i. weak ts rest (type_passes ts t rest i)) ts t h.a h.type_is) (weak h.a rest (words_pass h.a ws rest h.words))
  declaration_passes ts (items.Struct x) rest h = behind_passes (IsStruct IsFields) s.Struct (λ n. refl) struct_keeps ts x rest h
  declaration_passes ts (items.Variant x) rest h = behind_passes (IsVariant IsFields) s.Variant (λ n. refl) variant_keeps ts x rest h
  declaration_passes ts (items.Enum x) rest h = behind_passes IsEnum s.Enum (λ n. refl) enum_keeps ts x rest h
  declaration_passes ts (items.Block k es) rest h = behind_passes (Braced (IsEntry IsFields)) (keyword_of k) (flat k) (λ ts es rest i. weak ts rest (braced_passes (IsEntry IsFields) entry_passes ts es rest i)) ts es rest h
    where
      flat : (k : BlockKind) (n : ℕ) → opened_by n (keyword_of k) ≡ n
      flat block_of.Trace n = refl
      flat block_of.Stream n = refl
      flat block_of.Event n = refl
      flat block_of.Clock n = refl
      flat block_of.Env n = refl
      flat block_of.Callsite n = refl

  pub item_passes : (ts : Tokens) (i : Item) (rest : Tokens) → IsItemWith IsFields ts i rest → Passes ts rest
  item_passes ts i rest h = then ts h.a rest (declaration_passes ts i h.a h.declaration) (weak h.a rest (stands s.Semicolon h.a rest (λ n. refl) h.semicolon))

pub fields_pass : (depth : ℕ) (ts : Tokens) (fs : List FieldTree) (rest : Tokens) → IsFieldsWithin depth ts fs rest → Passes ts rest
fields_pass zero ts fs rest h = absurd h
fields_pass (suc depth) ts fs rest h = braced_passes (IsField (IsFieldsWithin depth)) (field_passes (IsFieldsWithin depth) (fields_pass depth)) ts fs rest h
