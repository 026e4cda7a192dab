-- Types and fields that are in the grammar are read.
use Rattle.std.proofs.Common.{◌≡◌, ◌⊎◌, inl, inr, ℕ, zero, suc, ◌+◌, ◌≤◌, Bool, true, false, List, [], ◌∷◌, ◌++◌, length, drop, Option, Some, None, refl, sym, ap, ◌∙◌, subst, arith, rules, append_assoc, append-nil, codes}
use Rattle.std.specs.Prelude.{◌||◌, ◌&&◌, option_map}
use Rattle.std.proofs.lemmas.Grind.{common_steps}
use denote.Enum.Bare.{sameb, same_false}
use Rattle.tsdl_lex.specs.declared.token.TokenKind.{TokenKind}
use Rattle.tsdl_lex.specs.declared.token.TokenKind.TheVariants as kind
use Rattle.tsdl_parser.specs.declared.symbol.Symbol.{Symbol}
use Rattle.tsdl_parser.specs.declared.symbol.Symbol.TheVariants as s
use Rattle.tsdl_parser.specs.contracts.symbol.Symbol.{the_type}
use Rattle.tsdl_parser.specs.declared.tree.Attr.{Attr}
use Rattle.tsdl_parser.specs.declared.tree.TypeTree.{TypeTree}
use Rattle.tsdl_parser.specs.declared.tree.TypeTree.TheVariants as ty
use Rattle.tsdl_parser.specs.declared.tree.StructTree.{StructTree}
use Rattle.tsdl_parser.specs.declared.tree.StructBody.{StructBody}
use Rattle.tsdl_parser.specs.declared.tree.VariantTree.{VariantTree}
use Rattle.tsdl_parser.specs.declared.tree.FieldTree.{FieldTree}
use Rattle.tsdl_parser.specs.declared.tree.EnumTree.{EnumTree}
use Rattle.tsdl_parser.specs.declared.tree.EnumBase.{EnumBase}
use Rattle.tsdl_parser.specs.declared.tree.EnumBase.TheVariants as base
use Rattle.tsdl_parser.specs.declared.tree.Label.{Label}
use Rattle.tsdl_parser.specs.declared.tree.Dim.{Dim}
use Rattle.tsdl_parser.specs.declared.tree.Dim.TheVariants as dim
use Rattle.tsdl_parser.specs.Symbols.{head, word_symbol, symbol_of}
use Rattle.tsdl_parser.specs.Parsers.{Parser, and_then, sees, word_of, name, if_seen, pure, ◌<$>◌, ◌>>=◌}
use Rattle.tsdl_parser.specs.Reading.{MAX_BRACES, path, attrs, enum_tree, last_apart, enum_named, dim_by, dim_of, dims_from, dims, is_align, sees_align, align, tag, is_some, struct_body, struct_tree, variant_tree, type_by, type_tree, typed_by, typed, field, fields}
use Rattle.tsdl_parser.specs.Depth.{opened_by}
use Rattle.tsdl_parser.specs.Grammar.{Tokens, Text, Stands, IsWord, IsName, Part, Each, Maybe, Behind, Between, IsPath, IsWords, IsAttrs, HasOne, IsEnum, IsDim, AreDims, IsAlign, IsBody, IsStruct, IsVariant, IsType, integer, float, string_type, struct, variant, enum, words_type, IsField, IsFieldsWithin}
use Rattle.tsdl_parser.proofs.Firsts.{last_is}
use Rattle.tsdl_parser.proofs.Steps.{gives, head_is, sees_it, left_of, other, after_it, after_other, expect_gives, number_gives, name_stands, number_stands, word_stands, name_gives, word_cases, unseen, seen, seen_head}
use Rattle.tsdl_parser.proofs.Passing.{Passes, Keeps, Fits, fits_here, weak, stands, name_passes, path_passes, between_passes, maybe_keeps, boxed_dim_passes, field_passes, fields_pass}
use Rattle.tsdl_parser.proofs.Giving.{path_gives, words_give, attrs_give, Reads, braced_gives}
use Rattle.tsdl_parser.proofs.EnumsGiving.{Ends, EnumEnds, enum_gives, name_if_any_gives}

path_dim : (w : Text) → dim_by (word_symbol w) ≡ (dim.Path <$> path)
unfolding dim_by
path_dim = word_cases (λ x. dim_by x ≡ (dim.Path <$> path)) refl refl refl refl refl refl refl refl refl refl refl refl refl refl

dim_gives : (ts : Tokens) (d : Dim) (rest : Tokens) → IsDim ts d rest → sees s.Dot rest ≡ false → dim_by (head ts) ts ≡ gives d rest
unfolding dim_by
dim_gives ts (dim.Fixed n) rest h none =
    let front = head_is s.Number ts rest (number_stands ts rest n h) in
    let read = number_gives ts rest n h in
    first_of (search rules, grind (arith, common_steps))
dim_gives ts (dim.Path []) rest h none = absurd h
dim_gives ts (dim.Path (w ∷ ws)) rest h none =
    let front = head_is (word_symbol w) ts h.0 (word_stands ts h.0 w h.1) in
    let read = path_gives ts (w ∷ ws) rest h none in
    ap (λ x. dim_by x ts) front ∙ ap (λ (p : Parser Dim). p ts) (path_dim w) ∙ ap (λ o. and_then o (λ y. pure (dim.Path y))) read

boxed_dim_gives : (ts : Tokens) (d : Dim) (rest : Tokens) → (h : Between s.OpenBracket IsDim s.CloseBracket ts d rest) → dim_of h.a ≡ gives d rest
unfolding dim_of
boxed_dim_gives ts d rest h =
    let read = dim_gives h.a d h.b h.part (other s.CloseBracket s.Dot refl h.b (head_is s.CloseBracket h.b rest h.closes)) in
    let close = expect_gives s.CloseBracket h.b rest h.closes in
    first_of (search rules, grind (arith, common_steps))

dims_go_on : (ds : List Dim) (n : ℕ) (found : List Dim) (ts rest : Tokens) → AreDims ts ds rest → sees s.OpenBracket rest ≡ false → length ts ≤ n → dims_from n found ts ≡ gives (found ++ ds) rest
unfolding dims_from
dims_go_on [] zero found ts rest h none enough = let e = append-nil found in first_of (search rules, grind (arith, common_steps))
dims_go_on [] (suc n) found ts rest h none enough =
    let e = append-nil found in
    let here : sees s.OpenBracket ts ≡ false = ap (sees s.OpenBracket) h ∙ none in
    let still = after_other s.OpenBracket ts here in
    first_of (search rules, grind (arith, common_steps))
dims_go_on (d ∷ ds) zero found ts rest h none enough = absurd (let p = (boxed_dim_passes ts d h.0 h.1).less in omega (arith, p, enough))
dims_go_on (d ∷ ds) (suc n) found ts rest h none enough =
    let p = (boxed_dim_passes ts d h.0 h.1).less in
    let here = sees_it s.OpenBracket ts h.1.a h.1.opens in
    let behind = after_it s.OpenBracket ts h.1.a h.1.opens in
    let read = boxed_dim_gives ts d h.0 h.1 in
    let more = dims_go_on ds n (found ++ d ∷ []) h.0 rest h.2 none (omega (arith, p, enough)) in
    let same : (found ++ d ∷ []) ++ ds ≡ found ++ d ∷ ds = append_assoc found (d ∷ []) ds in
    first_of (search rules, grind (arith, common_steps))

dims_give : (ts : Tokens) (ds : List Dim) (rest : Tokens) → AreDims ts ds rest → sees s.OpenBracket rest ≡ false → dims ts ≡ gives ds rest
unfolding dims
dims_give ts ds rest h none = dims_go_on ds (length ts) [] ts rest h none (omega arith)

-- ---- `align(8)`

align_seen : (ts a b : Tokens) → IsWord ts (codes "align") a → Stands s.OpenParen a b → sees_align ts ≡ true
align_seen ts a b h p = ap sees_align h.front ∙ ap (λ k. is_align (word_of k) && sees s.OpenParen a) h.is ∙ sees_it s.OpenParen a b p

align_gives : (ts : Tokens) (o : Option ℕ) (rest : Tokens) → Maybe IsAlign ts o rest → sees_align rest ≡ false → align ts ≡ gives o rest
unfolding align
align_gives ts None rest h none =
    let here : sees_align ts ≡ false = ap sees_align h ∙ none in
    first_of (search rules, grind (arith, common_steps))
align_gives ts (Some n) rest h none =
    let here = align_seen ts h.a h.number_is.a h.word_is h.number_is.opens in
    let first : drop 1 ts ≡ h.a = ap (drop 1) h.word_is.front in
    let second = left_of s.OpenParen h.a h.number_is.a h.number_is.opens in
    let read = number_gives h.number_is.a h.number_is.b n h.number_is.part in
    let close = expect_gives s.CloseParen h.number_is.b rest h.number_is.closes in
    first_of (search rules, grind (arith, common_steps))

-- a name after which no parenthesis stands
no_align : (ts a : Tokens) (w : Text) → IsName ts w a → sees s.OpenParen a ≡ false → sees_align ts ≡ false
no_align ts a w h none = ap sees_align h.word.front ∙ by (is_align (word_of h.word.token.kind)) none
  where
    by : (b : Bool) → sees s.OpenParen a ≡ false → (b && sees s.OpenParen a) ≡ false
    by true e = e
    by false e = refl

-- a part at whose front stands another symbol than a word is no `align`
pub no_align_mark : (x : Symbol) (ts a : Tokens) → Stands x ts a → ((w : Text) → word_symbol w ≡ x → ⊥) → sees_align ts ≡ false
no_align_mark x ts a h mark = ap sees_align h.front ∙ by h.token.kind h.is
  where
    by : (k : TokenKind) → symbol_of k ≡ x → (is_align (word_of k) && sees s.OpenParen a) ≡ false
    by (kind.Word w) e = absurd (mark w e)
    by (kind.Number n) e = refl
    by (kind.Str text) e = refl
    by (kind.Mark m) e = refl

no_semicolon : (w : Text) → word_symbol w ≡ s.Semicolon → ⊥
no_semicolon w = word_cases (λ x. x ≡ s.Semicolon → ⊥) (at s.Typealias refl) (at s.Struct refl) (at s.Variant refl) (at s.Enum refl) (at s.Integer refl) (at s.FloatingPoint refl) (at s.String refl) (at s.Trace refl) (at s.Stream refl) (at s.Event refl) (at s.Clock refl) (at s.Env refl) (at s.Callsite refl) (at s.Name refl) w
  where
    at : (x : Symbol) → sameb the_type x s.Semicolon ≡ false → x ≡ s.Semicolon → ⊥
    at x = same_false the_type x s.Semicolon

no_declare : (w : Text) → word_symbol w ≡ s.Declare → ⊥
no_declare w = word_cases (λ x. x ≡ s.Declare → ⊥) (at s.Typealias refl) (at s.Struct refl) (at s.Variant refl) (at s.Enum refl) (at s.Integer refl) (at s.FloatingPoint refl) (at s.String refl) (at s.Trace refl) (at s.Stream refl) (at s.Event refl) (at s.Clock refl) (at s.Env refl) (at s.Callsite refl) (at s.Name refl) w
  where
    at : (x : Symbol) → sameb the_type x s.Declare ≡ false → x ≡ s.Declare → ⊥
    at x = same_false the_type x s.Declare

-- what may stand after a whole type
pub record TypeEnds (rest : Tokens) : Type 0 where
  pub ends : Ends rest
  pub no_parens : sees_align rest ≡ false

pub behind_semicolon : (ts a : Tokens) → Stands s.Semicolon ts a → TypeEnds ts
behind_semicolon ts a h = let front = head_is s.Semicolon ts a h in record { ends = record { no_brace = other s.Semicolon s.OpenBrace refl ts front; no_colon = other s.Semicolon s.Colon refl ts front; no_less = other s.Semicolon s.Less refl ts front }; no_parens = no_align_mark s.Semicolon ts a h no_semicolon }

pub behind_declare : (ts a : Tokens) → Stands s.Declare ts a → TypeEnds ts
behind_declare ts a h = let front = head_is s.Declare ts a h in record { ends = record { no_brace = other s.Declare s.OpenBrace refl ts front; no_colon = other s.Declare s.Colon refl ts front; no_less = other s.Declare s.Less refl ts front }; no_parens = no_align_mark s.Declare ts a h no_declare }

behind_name : (ts a : Tokens) (w : Text) → IsName ts w a → sees s.OpenParen a ≡ false → TypeEnds ts
behind_name ts a w h none = let front = head_is s.Name ts a (name_stands ts a w h) in record { ends = record { no_brace = other s.Name s.OpenBrace refl ts front; no_colon = other s.Name s.Colon refl ts front; no_less = other s.Name s.Less refl ts front }; no_parens = no_align ts a w h none }

tag_keeps : (ts : Tokens) (o : Option (List Text)) (rest : Tokens) → Maybe (Between s.Less IsPath s.Greater) ts o rest → Keeps ts rest
tag_keeps = maybe_keeps (Between s.Less IsPath s.Greater) (between_passes IsPath s.Less s.Greater (λ n. refl) (λ n. refl) (λ ts ws rest i. weak ts rest (path_passes ts ws rest i)))

has_one : {A B : Type 0} (o : Option A) (p : Option B) → HasOne o p → (is_some o || is_some p) ≡ true
has_one (Some w) p some = refl
has_one None (Some ls) some = refl
has_one None None some = absurd some

tag_gives : (ts : Tokens) (ws : List Text) (rest : Tokens) → Between s.Less IsPath s.Greater ts ws rest → tag ts ≡ gives ws rest
unfolding tag
tag_gives ts ws rest h =
    let behind = left_of s.Less ts h.a h.opens in
    let read = path_gives h.a ws h.b h.part (other s.Greater s.Dot refl h.b (head_is s.Greater h.b rest h.closes)) in
    let close = expect_gives s.Greater h.b rest h.closes in
    first_of (search rules, grind (arith, common_steps))

tag_if_any_gives : (ts : Tokens) (o : Option (List Text)) (rest : Tokens) → Maybe (Between s.Less IsPath s.Greater) ts o rest → sees s.Less rest ≡ false → if_seen s.Less tag ts ≡ gives o rest
tag_if_any_gives ts None rest h none = unseen s.Less tag ts (ap (sees s.Less) h ∙ none) ∙ ap (λ r. gives None r) h
tag_if_any_gives ts (Some ws) rest h none = seen s.Less tag ts rest ws (sees_it s.Less ts h.a h.opens) (tag_gives ts ws rest h)

attrs_if_any_give : (ts : Tokens) (o : Option (List Attr)) (rest : Tokens) → Maybe IsAttrs ts o rest → sees s.OpenBrace rest ≡ false → if_seen s.OpenBrace attrs ts ≡ gives o rest
attrs_if_any_give ts None rest h none = unseen s.OpenBrace attrs ts (ap (sees s.OpenBrace) h ∙ none) ∙ ap (λ r. gives None r) h
attrs_if_any_give ts (Some xs) rest h none = seen s.OpenBrace attrs ts rest xs (sees_it s.OpenBrace ts h.a h.opens) (attrs_give ts xs rest h)

-- where it is known which tokens are fields, and that those are read where so many braces are open
module _ (IsFields : Part (List FieldTree)) (all_fields : Parser (List FieldTree)) (n : ℕ)
    (opens : (ts : Tokens) (fs : List FieldTree) (rest : Tokens) → IsFields ts fs rest → head ts ≡ s.OpenBrace)
    (fields_give : (ts : Tokens) (fs : List FieldTree) (rest : Tokens) → Fits n ts → IsFields ts fs rest → all_fields ts ≡ gives fs rest)
    (passes : (ts : Tokens) (fs : List FieldTree) (rest : Tokens) → IsFields ts fs rest → Passes ts rest) where
  body_gives : (ts : Tokens) (b : StructBody) (rest : Tokens) → Fits n ts → IsBody IsFields ts b rest → sees_align rest ≡ false → struct_body all_fields ts ≡ gives b rest
  unfolding struct_body
  body_gives ts b rest fits h none =
      let all = fields_give ts h.all h.a fits h.fields in
      let last = align_gives h.a h.align rest h.align_is none in
      let is = h.is in
      first_of (search rules, grind (arith, common_steps))

  body_if_any_gives : (ts : Tokens) (o : Option StructBody) (rest : Tokens) → Fits n ts → Maybe (IsBody IsFields) ts o rest → TypeEnds rest → if_seen s.OpenBrace (struct_body all_fields) ts ≡ gives o rest
  body_if_any_gives ts None rest fits h end = unseen s.OpenBrace (struct_body all_fields) ts (ap (sees s.OpenBrace) h ∙ end.ends.no_brace) ∙ ap (λ r. gives None r) h
  body_if_any_gives ts (Some b) rest fits h end = seen s.OpenBrace (struct_body all_fields) ts rest b (seen_head s.OpenBrace ts (opens ts h.all h.a h.fields)) (body_gives ts b rest fits h end.no_parens)

  pub struct_gives : (ts : Tokens) (t : StructTree) (rest : Tokens) → Fits n ts → IsStruct IsFields ts t rest → TypeEnds rest → struct_tree all_fields ts ≡ gives t rest
  unfolding struct_tree
  struct_gives ts t rest fits h end =
      let called = name_if_any_gives ts h.name h.a h.name_is (unnamed h.name h.body h.name_is h.body_is h.some) in
      let body = body_if_any_gives h.a h.body rest ((maybe_keeps IsName name_passes ts h.name h.a h.name_is).fits n fits) h.body_is end in
      let one = has_one h.name h.body h.some in
      let is = h.is in
      first_of (search rules, grind (arith, common_steps))
    where
      unnamed : (called : Option Text) (b : Option StructBody) → Maybe IsName ts called h.a → Maybe (IsBody IsFields) h.a b rest → HasOne called b → called ≡ None → sees s.Name ts ≡ false
      unnamed (Some w) b m i some e = absurd (cc)
      unnamed None None m i some e = absurd some
      unnamed None (Some b) m i some e = ap (sees s.Name) m ∙ other s.OpenBrace s.Name refl h.a (opens h.a i.all i.a i.fields)

  fields_if_any_give : (ts : Tokens) (o : Option (List FieldTree)) (rest : Tokens) → Fits n ts → Maybe IsFields ts o rest → TypeEnds rest → if_seen s.OpenBrace all_fields ts ≡ gives o rest
  fields_if_any_give ts None rest fits h end = unseen s.OpenBrace all_fields ts (ap (sees s.OpenBrace) h ∙ end.ends.no_brace) ∙ ap (λ r. gives None r) h
  fields_if_any_give ts (Some fs) rest fits h end = seen s.OpenBrace all_fields ts rest fs (seen_head s.OpenBrace ts (opens ts fs rest h)) (fields_give ts fs rest fits h)

  pub variant_gives : (ts : Tokens) (t : VariantTree) (rest : Tokens) → Fits n ts → IsVariant IsFields ts t rest → TypeEnds rest → variant_tree all_fields ts ≡ gives t rest
  unfolding variant_tree
  variant_gives ts t rest fits h end =
      let fits_a = (maybe_keeps IsName name_passes ts h.name h.a h.name_is).fits n fits in
      let fits_b = (tag_keeps h.a h.tag h.b h.tag_is).fits n fits_a in
      let called = name_if_any_gives ts h.name h.a h.name_is (unnamed h.name h.tag h.body h.name_is h.tag_is h.body_is h.some) in
      let tagged = tag_if_any_gives h.a h.tag h.b h.tag_is (no_less h.body h.body_is) in
      let body = fields_if_any_give h.b h.body rest fits_b h.body_is end in
      let one = has_one h.name h.body h.some in
      let is = h.is in
      first_of (search rules, grind (arith, common_steps))
    where
      no_less : (b : Option (List FieldTree)) → Maybe IsFields h.b b rest → sees s.Less h.b ≡ false
      no_less None i = ap (sees s.Less) i ∙ end.ends.no_less
      no_less (Some fs) i = other s.OpenBrace s.Less refl h.b (opens h.b fs rest i)

      unnamed : (called : Option Text) (by : Option (List Text)) (b : Option (List FieldTree)) → Maybe IsName ts called h.a → Maybe (Between s.Less IsPath s.Greater) h.a by h.b → Maybe IsFields h.b b rest → HasOne called b → called ≡ None → sees s.Name ts ≡ false
      unnamed (Some w) by b m t i some e = absurd (cc)
      unnamed None by None m t i some e = absurd some
      unnamed None None (Some fs) m t i some e = ap (sees s.Name) (m ∙ t) ∙ other s.OpenBrace s.Name refl h.b (opens h.b fs rest i)
      unnamed None (Some ws) (Some fs) m t i some e = ap (sees s.Name) m ∙ other s.Less s.Name refl h.a (head_is s.Less h.a t.a t.opens)

  integer_gives : (ts : Tokens) (xs : List Attr) (rest : Tokens) → Behind s.Integer IsAttrs ts xs rest → type_tree all_fields ts ≡ gives (ty.Integer xs) rest
  unfolding type_tree type_by
  integer_gives ts xs rest h =
      let front = head_is s.Integer ts h.a h.opens in
      let behind = left_of s.Integer ts h.a h.opens in
      let read = attrs_give h.a xs rest h.part in
      first_of (search rules, grind (arith, common_steps))

  float_gives : (ts : Tokens) (xs : List Attr) (rest : Tokens) → Behind s.FloatingPoint IsAttrs ts xs rest → type_tree all_fields ts ≡ gives (ty.Float xs) rest
  unfolding type_tree type_by
  float_gives ts xs rest h =
      let front = head_is s.FloatingPoint ts h.a h.opens in
      let behind = left_of s.FloatingPoint ts h.a h.opens in
      let read = attrs_give h.a xs rest h.part in
      first_of (search rules, grind (arith, common_steps))

  string_type_gives : (ts : Tokens) (o : Option (List Attr)) (rest : Tokens) → Behind s.String (Maybe IsAttrs) ts o rest → TypeEnds rest → type_tree all_fields ts ≡ gives (ty.Str o) rest
  unfolding type_tree type_by
  string_type_gives ts o rest h end =
      let front = head_is s.String ts h.a h.opens in
      let behind = left_of s.String ts h.a h.opens in
      let read = attrs_if_any_give h.a o rest h.part end.ends.no_brace in
      first_of (search rules, grind (arith, common_steps))

  struct_type_gives : (ts : Tokens) (t : StructTree) (rest : Tokens) → Fits n ts → Behind s.Struct (IsStruct IsFields) ts t rest → TypeEnds rest → type_tree all_fields ts ≡ gives (ty.Struct t) rest
  unfolding type_tree type_by
  struct_type_gives ts t rest fits h end =
      let front = head_is s.Struct ts h.a h.opens in
      let behind = left_of s.Struct ts h.a h.opens in
      let read = struct_gives h.a t rest ((stands s.Struct ts h.a (λ n. refl) h.opens).fits n fits) h.part end in
      first_of (search rules, grind (arith, common_steps))

  variant_type_gives : (ts : Tokens) (t : VariantTree) (rest : Tokens) → Fits n ts → Behind s.Variant (IsVariant IsFields) ts t rest → TypeEnds rest → type_tree all_fields ts ≡ gives (ty.Variant t) rest
  unfolding type_tree type_by
  variant_type_gives ts t rest fits h end =
      let front = head_is s.Variant ts h.a h.opens in
      let behind = left_of s.Variant ts h.a h.opens in
      let read = variant_gives h.a t rest ((stands s.Variant ts h.a (λ n. refl) h.opens).fits n fits) h.part end in
      first_of (search rules, grind (arith, common_steps))

  enum_type_gives : (ts : Tokens) (e : EnumTree) (rest : Tokens) → (h : Behind s.Enum IsEnum ts e rest) → Ends rest → EnumEnds e.base e.labels rest → type_tree all_fields ts ≡ gives (ty.Enum e) rest
  unfolding type_tree type_by
  enum_type_gives ts e rest h end names =
      let front = head_is s.Enum ts h.a h.opens in
      let behind = left_of s.Enum ts h.a h.opens in
      let read = enum_gives h.a e rest h.part end names in
      first_of (search rules, grind (arith, common_steps))

  words_type_gives : (ts : Tokens) (ws : List Text) (rest : Tokens) → IsWords ts ws rest → sees s.Name rest ≡ false → type_tree all_fields ts ≡ gives (ty.Words ws) rest
  unfolding type_tree type_by
  words_type_gives ts [] rest h none = absurd h
  words_type_gives ts (w ∷ ws) rest h none =
      let front = head_is s.Name ts h.0 (name_stands ts h.0 w h.1) in
      let read = words_give ts (w ∷ ws) rest h none in
      first_of (search rules, grind (arith, common_steps))

  pub enum_ends : (of : Option EnumBase) (ls : Option (List Label)) (rest : Tokens) → sees s.Name rest ≡ false → EnumEnds of ls rest
  enum_ends None None rest none = tt {0}
  enum_ends (Some (base.Integer xs)) None rest none = tt {0}
  enum_ends (Some (base.Words ws)) None rest none = none
  enum_ends of (Some ls) rest none = tt {0}

  -- a type after which no name stands
  pub type_gives : (ts : Tokens) (t : TypeTree) (rest : Tokens) → Fits n ts → IsType IsFields ts t rest → TypeEnds rest → sees s.Name rest ≡ false → type_tree all_fields ts ≡ gives t rest
  type_gives ts t rest fits (integer ts' xs rest' h) end none = integer_gives ts xs rest h
  type_gives ts t rest fits (float ts' xs rest' h) end none = float_gives ts xs rest h
  type_gives ts t rest fits (string_type ts' xs rest' h) end none = string_type_gives ts xs rest h end
  type_gives ts t rest fits (struct ts' x rest' h) end none = struct_type_gives ts x rest fits h end
  type_gives ts t rest fits (variant ts' x rest' h) end none = variant_type_gives ts x rest fits h end
  type_gives ts t rest fits (enum ts' e rest' h) end none = enum_type_gives ts e rest h end.ends (enum_ends e.base e.labels rest none)
  type_gives ts t rest fits (words_type ts' ws rest' h) end none = words_type_gives ts ws rest h none

  -- a part of a type that isn't words and isn't an enumeration, and the field's name
  named_after : (ts a b : Tokens) (t : TypeTree) (called : Text) (x : Symbol) → head ts ≡ x → typed_by all_fields x ≡ (type_tree all_fields >>= (λ of. name >>= (λ w. pure (of, w)))) → type_tree all_fields ts ≡ gives t a → IsName a called b → typed all_fields ts ≡ gives (t, called) b
  unfolding typed
  named_after ts a b t called x front by read h =
      let read_name = name_gives a b called h in
      ap (λ y. typed_by all_fields y ts) front ∙ ap (λ (p : Parser (TypeTree × Text)). p ts) by ∙ ap (λ o. and_then o (λ of. name >>= (λ w. pure (of, w)))) read ∙ ap (λ o. and_then o (λ w. pure (t, w))) read_name

  last_word : (ws : List Text) (called : Text) (ts : Tokens) → (ws ≡ [] → ⊥) → last_apart (ws ++ called ∷ []) ts ≡ gives (ws, called) ts
  unfolding last_apart
  last_word ws called ts some = ap (option_map (λ p. (p, ts))) (last_is (ws ++ called ∷ []) ws called refl some)

  -- words and one name more
  words_more : (ts a b : Tokens) (ws : List Text) (called : Text) → IsWords ts ws a → IsName a called b → IsWords ts (ws ++ called ∷ []) b
  words_more ts a b [] called h n = absurd h
  words_more ts a b (w ∷ ws) called h n = (h.0, h.1, more h.0 ws h.2)
    where
      more : (ts : Tokens) (ws : List Text) → Each IsName ts ws a → Each IsName ts (ws ++ called ∷ []) b
      more ts [] h = (b, subst (λ l. IsName l called b) (sym h) n, refl)
      more ts (w ∷ ws) h = (h.0, h.1, more h.0 ws h.2)

  words_some : (ts a : Tokens) (ws : List Text) → IsWords ts ws a → ws ≡ [] → ⊥
  words_some ts a [] h e = h
  words_some ts a (w ∷ ws) h e = absurd (cc)

  words_named : (ts a b : Tokens) (ws : List Text) (called : Text) → IsWords ts ws a → IsName a called b → sees s.Name b ≡ false → typed all_fields ts ≡ gives (ty.Words ws, called) b
  unfolding typed typed_by
  words_named ts a b [] called h n none = absurd h
  words_named ts a b (w ∷ ws) called h n none =
      let front = head_is s.Name ts h.0 (name_stands ts h.0 w h.1) in
      let read = words_give ts ((w ∷ ws) ++ called ∷ []) b (words_more ts a b (w ∷ ws) called h n) none in
      let last = last_word (w ∷ ws) called b (words_some ts a (w ∷ ws) h) in
      first_of (search rules, grind (arith, common_steps))

  enum_closed : (ts a b : Tokens) (e : EnumTree) (called : Text) → (h : Behind s.Enum IsEnum ts e a) → IsName a called b → EnumEnds e.base e.labels a → enum_named e a ≡ gives (e, called) b → Ends a → typed all_fields ts ≡ gives (ty.Enum e, called) b
  unfolding typed typed_by
  enum_closed ts a b e called h n names named end =
      let front = head_is s.Enum ts h.a h.opens in
      let behind = left_of s.Enum ts h.a h.opens in
      let read = enum_gives h.a e a h.part end names in
      first_of (search rules, grind (arith, common_steps))

  enum_open : (ts a b : Tokens) (called : Text) (id : Option Text) (ws : List Text) → Behind s.Enum IsEnum ts (record { name = id; base = Some (base.Words ws); labels = None }) a → IsName a called b → sees s.Name b ≡ false → Ends b → typed all_fields ts ≡ gives (ty.Enum (record { name = id; base = Some (base.Words ws); labels = None }), called) b
  unfolding typed typed_by enum_named
  enum_open ts a b called id ws h n none end =
      let front = head_is s.Enum ts h.a h.opens in
      let behind = left_of s.Enum ts h.a h.opens in
      let read : enum_tree h.a ≡ gives more b = enum_gives h.a more b whole end none in
      let last = last_word ws called b (words_some h.part.base_is.a h.part.b ws h.part.base_is.part) in
      first_of (search rules, grind (arith, common_steps))
    where
      more : EnumTree
      more = record { name = id; base = Some (base.Words (ws ++ called ∷ [])); labels = None }

      whole : IsEnum h.a more b
      whole = record { a = h.part.a; b = b; name_is = h.part.name_is; base_is = record { a = h.part.base_is.a; opens = h.part.base_is.opens; part = words_more h.part.base_is.a a b ws called (subst (IsWords h.part.base_is.a ws) h.part.labels_are h.part.base_is.part) n }; labels_are = refl; some = h.part.some }

  named_plainly : (a b : Tokens) (called : Text) (e : EnumTree) → IsName a called b → and_then {B = EnumTree × Text} (name a) (λ w. pure (e, w)) ≡ gives (e, called) b
  named_plainly a b called e n = ap (λ o. and_then {B = EnumTree × Text} o (λ w. pure (e, w))) (name_gives a b called n)

  enum_by : (ts a b : Tokens) (called : Text) (id : Option Text) (of : Option EnumBase) (ls : Option (List Label)) → Behind s.Enum IsEnum ts (record { name = id; base = of; labels = ls }) a → IsName a called b → sees s.Name b ≡ false → Ends a → Ends b → typed all_fields ts ≡ gives (ty.Enum (record { name = id; base = of; labels = ls }), called) b
  unfolding enum_named
  enum_by ts a b called id None None h n none end end' = enum_closed ts a b (record { name = id; base = None; labels = None }) called h n (tt {0}) (named_plainly a b called (record { name = id; base = None; labels = None }) n) end
  enum_by ts a b called id None (Some ls) h n none end end' = enum_closed ts a b (record { name = id; base = None; labels = Some ls }) called h n (tt {0}) (named_plainly a b called (record { name = id; base = None; labels = Some ls }) n) end
  enum_by ts a b called id (Some (base.Integer xs)) None h n none end end' = enum_closed ts a b (record { name = id; base = Some (base.Integer xs); labels = None }) called h n (tt {0}) (named_plainly a b called (record { name = id; base = Some (base.Integer xs); labels = None }) n) end
  enum_by ts a b called id (Some (base.Integer xs)) (Some ls) h n none end end' = enum_closed ts a b (record { name = id; base = Some (base.Integer xs); labels = Some ls }) called h n (tt {0}) (named_plainly a b called (record { name = id; base = Some (base.Integer xs); labels = Some ls }) n) end
  enum_by ts a b called id (Some (base.Words ws)) (Some ls) h n none end end' = enum_closed ts a b (record { name = id; base = Some (base.Words ws); labels = Some ls }) called h n (tt {0}) (named_plainly a b called (record { name = id; base = Some (base.Words ws); labels = Some ls }) n) end
  enum_by ts a b called id (Some (base.Words ws)) None h n none end end' = enum_open ts a b called id ws h n none end'

  -- a type and the field's name after it
  typed_gives : (ts a b : Tokens) (t : TypeTree) (called : Text) → Fits n ts → IsType IsFields ts t a → IsName a called b → sees s.Name b ≡ false → TypeEnds a → Ends b → typed all_fields ts ≡ gives (t, called) b
  unfolding typed_by
  typed_gives ts a b t called fits (integer ts' xs a' h) n none end end' = named_after ts a b (ty.Integer xs) called s.Integer (head_is s.Integer ts h.a h.opens) refl (integer_gives ts xs a h) n
  typed_gives ts a b t called fits (float ts' xs a' h) n none end end' = named_after ts a b (ty.Float xs) called s.FloatingPoint (head_is s.FloatingPoint ts h.a h.opens) refl (float_gives ts xs a h) n
  typed_gives ts a b t called fits (string_type ts' xs a' h) n none end end' = named_after ts a b (ty.Str xs) called s.String (head_is s.String ts h.a h.opens) refl (string_type_gives ts xs a h end) n
  typed_gives ts a b t called fits (struct ts' x a' h) n none end end' = named_after ts a b (ty.Struct x) called s.Struct (head_is s.Struct ts h.a h.opens) refl (struct_type_gives ts x a fits h end) n
  typed_gives ts a b t called fits (variant ts' x a' h) n none end end' = named_after ts a b (ty.Variant x) called s.Variant (head_is s.Variant ts h.a h.opens) refl (variant_type_gives ts x a fits h end) n
  typed_gives ts a b t called fits (enum ts' e a' h) n none end end' = enum_by ts a b called e.name e.base e.labels h n none end.ends end'
  typed_gives ts a b t called fits (words_type ts' ws a' h) n none end end' = words_named ts a b ws called h n none

  field_gives : (ts : Tokens) (f : FieldTree) (rest : Tokens) → Fits n ts → IsField IsFields ts f rest → field all_fields ts ≡ gives f rest
  unfolding field
  field_gives ts f rest fits h =
      let what : typed all_fields ts ≡ gives (h.of, h.called) h.b = typed_gives ts h.a h.b h.of h.called fits h.type_is h.name_is (not_seen s.Name refl refl) end end' in
      let lengths = dims_give h.b h.dims h.c h.dims_are (other s.Semicolon s.OpenBracket refl h.c (head_is s.Semicolon h.c rest h.semicolon)) in
      let close = expect_gives s.Semicolon h.c rest h.semicolon in
      let is = h.is in
      first_of (search rules, grind (arith, common_steps))
    where
      -- after the name stands a bracket or the semicolon
      next : (ds : List Dim) (l : Tokens) → AreDims l ds h.c → (head l ≡ s.OpenBracket) ⊎ (head l ≡ s.Semicolon)
      next [] l d = inr (ap head d ∙ head_is s.Semicolon h.c rest h.semicolon)
      next (d ∷ ds) l i = inl (head_is s.OpenBracket l i.1.a i.1.opens)

      at : (y : Symbol) → sameb the_type s.OpenBracket y ≡ false → sameb the_type s.Semicolon y ≡ false → (head h.b ≡ s.OpenBracket) ⊎ (head h.b ≡ s.Semicolon) → sees y h.b ≡ false
      at y p q (inl e) = other s.OpenBracket y p h.b e
      at y p q (inr e) = other s.Semicolon y q h.b e

      not_seen : (y : Symbol) → sameb the_type s.OpenBracket y ≡ false → sameb the_type s.Semicolon y ≡ false → sees y h.b ≡ false
      not_seen y p q = at y p q (next h.dims h.b h.dims_are)

      end : TypeEnds h.a
      end = behind_name h.a h.b h.called h.name_is (not_seen s.OpenParen refl refl)

      end' : Ends h.b
      end' = record { no_brace = not_seen s.OpenBrace refl refl; no_colon = not_seen s.Colon refl refl; no_less = not_seen s.Less refl refl }

  -- a field begins with no closing brace
  type_no_close : (ts : Tokens) (t : TypeTree) (rest : Tokens) → IsType IsFields ts t rest → sees s.CloseBrace ts ≡ false
  type_no_close ts t rest (integer ts' xs a' h) = other s.Integer s.CloseBrace refl ts (head_is s.Integer ts h.a h.opens)
  type_no_close ts t rest (float ts' xs a' h) = other s.FloatingPoint s.CloseBrace refl ts (head_is s.FloatingPoint ts h.a h.opens)
  type_no_close ts t rest (string_type ts' xs a' h) = other s.String s.CloseBrace refl ts (head_is s.String ts h.a h.opens)
  type_no_close ts t rest (struct ts' x a' h) = other s.Struct s.CloseBrace refl ts (head_is s.Struct ts h.a h.opens)
  type_no_close ts t rest (variant ts' x a' h) = other s.Variant s.CloseBrace refl ts (head_is s.Variant ts h.a h.opens)
  type_no_close ts t rest (enum ts' e a' h) = other s.Enum s.CloseBrace refl ts (head_is s.Enum ts h.a h.opens)
  type_no_close ts t rest (words_type ts' [] a' h) = absurd h
  type_no_close ts t rest (words_type ts' (w ∷ ws) a' h) = other s.Name s.CloseBrace refl ts (head_is s.Name ts h.0 (name_stands ts h.0 w h.1))

  pub field_reads : (ts : Tokens) (f : FieldTree) (rest : Tokens) → Fits n ts → IsField IsFields ts f rest → Reads (IsField IsFields) (field all_fields) (Fits n) ts f rest
  field_reads ts f rest fits h = let p = field_passes IsFields passes ts f rest h in record { read = field_gives ts f rest fits h; no_close = type_no_close ts h.of h.a h.type_is; less = p.less; fine = p.fits n fits }

pub opens_brace : (depth : ℕ) (ts : Tokens) (fs : List FieldTree) (rest : Tokens) → IsFieldsWithin depth ts fs rest → head ts ≡ s.OpenBrace
opens_brace zero ts fs rest h = absurd h
opens_brace (suc depth) ts fs rest h = head_is s.OpenBrace ts h.a h.opens

pub inside : (n : ℕ) (ts a : Tokens) → Fits n ts → Stands s.OpenBrace ts a → Fits (n + 1) a
inside n ts a fits h = subst (λ y. Fits (opened_by n y) a) h.is (subst (Fits n) h.front fits).1

-- fields are read where the braces that may still be opened are counted down, and those that are open up
pub fields_give : (depth left n : ℕ) → MAX_BRACES ≤ n + left → (ts : Tokens) (fs : List FieldTree) (rest : Tokens) → Fits n ts → IsFieldsWithin depth ts fs rest → fields left ts ≡ gives fs rest
unfolding fields
fields_give zero left n sum ts fs rest fits h = absurd h
fields_give (suc depth) zero n sum ts fs rest fits h = absurd (let deep = fits_here (n + 1) h.a (inside n ts h.a fits h.opens) in omega (arith, deep, sum))
fields_give (suc depth) (suc left) n sum ts fs rest fits h =
    braced_gives (IsField (IsFieldsWithin depth)) (field (fields left)) (Fits (n + 1))
    (field_reads (IsFieldsWithin depth) (fields left) (n + 1) (opens_brace depth) (fields_give depth left (n + 1) (omega (arith, sum))) (fields_pass depth))
    ts fs rest h (inside n ts h.a fits h.opens)
