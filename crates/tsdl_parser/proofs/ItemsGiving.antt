-- Declarations that are in the grammar are read.
use Rattle.std.proofs.Common.{◌≡◌, ℕ, false, List, refl, arith, rules}
use Rattle.std.proofs.lemmas.Grind.{common_steps}
use Rattle.tsdl_parser.specs.declared.symbol.Symbol.TheVariants as s
use Rattle.tsdl_parser.specs.declared.tree.Attr.{Attr}
use Rattle.tsdl_parser.specs.declared.tree.TypeTree.{TypeTree}
use Rattle.tsdl_parser.specs.declared.tree.FieldTree.{FieldTree}
use Rattle.tsdl_parser.specs.declared.tree.Entry.{Entry}
use Rattle.tsdl_parser.specs.declared.tree.Entry.TheVariants as entry_as
use Rattle.tsdl_parser.specs.declared.tree.BlockKind.{BlockKind}
use Rattle.tsdl_parser.specs.declared.tree.BlockKind.TheVariants as block_of
use Rattle.tsdl_parser.specs.declared.tree.Item.{Item}
use Rattle.tsdl_parser.specs.declared.tree.Item.TheVariants as items
use Rattle.tsdl_parser.specs.Parsers.{sees}
use Rattle.tsdl_parser.specs.Reading.{MAX_BRACES, fields, entry, entries, block, alias, item_by, declaration, item}
use Rattle.tsdl_parser.specs.Depth.{opened_by}
use Rattle.tsdl_parser.specs.Grammar.{Tokens, Text, Stands, Part, Behind, Braced, IsAttr, IsFieldsWithin, IsDeclare, IsEntry, IsAlias, keyword_of, IsDeclaration, IsItemWith}
use Rattle.tsdl_parser.proofs.Steps.{gives, head_is, sees_it, left_of, other, after_it, after_other, expect_gives}
use Rattle.tsdl_parser.proofs.Passing.{Fits, stands, path_passes, entry_passes, fields_pass}
use Rattle.tsdl_parser.proofs.Giving.{path_gives, words_give, value_gives, Reads, braced_gives, path_no_close}
use Rattle.tsdl_parser.proofs.EnumsGiving.{enum_gives}
use Rattle.tsdl_parser.proofs.TypesGiving.{behind_semicolon, behind_declare, type_gives, struct_gives, variant_gives, fields_give, opens_brace, inside, enum_ends}

module _ (depth : ℕ) where
  abbrev Inner : Part (List FieldTree)
  Inner = IsFieldsWithin depth

  -- fields are read where one brace is open, and where none is
  module _ (n : ℕ) (more : (ts : Tokens) (fs : List FieldTree) (rest : Tokens) → Fits n ts → IsFieldsWithin depth ts fs rest → fields MAX_BRACES ts ≡ gives fs rest) where
    declare_gives : (ts : Tokens) (ws : List Text) (t : TypeTree) (rest : Tokens) → Fits n ts → IsDeclare Inner ts ws t rest → entry ts ≡ gives (entry_as.Declare ws t) rest
    unfolding entry
    declare_gives ts ws t rest fits h =
        let front = head_is s.Declare h.a h.type_is.a h.type_is.opens in
        let where_to = path_gives ts ws h.a h.path_is (other s.Declare s.Dot refl h.a front) in
        let no_assign = other s.Declare s.Assign refl h.a front in
        let still = after_other s.Assign h.a no_assign in
        let declare = expect_gives s.Declare h.a h.type_is.a h.type_is.opens in
        let fits_a = (path_passes ts ws h.a h.path_is).fits n fits in
        let fits_b = (stands s.Declare h.a h.type_is.a (λ n. refl) h.type_is.opens).fits n fits_a in
        let of = type_gives Inner (fields MAX_BRACES) n (opens_brace depth) more (fields_pass depth) h.type_is.a t h.type_is.b fits_b h.type_is.part (behind_semicolon h.type_is.b rest h.type_is.closes) (other s.Semicolon s.Name refl h.type_is.b (head_is s.Semicolon h.type_is.b rest h.type_is.closes)) in
        let close = expect_gives s.Semicolon h.type_is.b rest h.type_is.closes in
        first_of (search rules, grind (arith, common_steps))

    assign_gives : (ts : Tokens) (x : Attr) (rest : Tokens) → IsAttr ts x rest → entry ts ≡ gives (entry_as.Assign x) rest
    unfolding entry
    assign_gives ts x rest h =
        let front = head_is s.Assign h.a h.value_is.a h.value_is.opens in
        let where_to = path_gives ts x.path h.a h.path_is (other s.Assign s.Dot refl h.a front) in
        let assign = sees_it s.Assign h.a h.value_is.a h.value_is.opens in
        let behind = after_it s.Assign h.a h.value_is.a h.value_is.opens in
        let what = value_gives h.value_is.a x.value h.value_is.b h.value_is.part (other s.Semicolon s.Dot refl h.value_is.b (head_is s.Semicolon h.value_is.b rest h.value_is.closes)) in
        let close = expect_gives s.Semicolon h.value_is.b rest h.value_is.closes in
        first_of (search rules, grind (arith, common_steps))

    entry_reads : (ts : Tokens) (e : Entry) (rest : Tokens) → Fits n ts → IsEntry Inner ts e rest → Reads (IsEntry Inner) entry (Fits n) ts e rest
    entry_reads ts (entry_as.Assign x) rest fits h = let p = entry_passes Inner (fields_pass depth) ts (entry_as.Assign x) rest h in record { read = assign_gives ts x rest h; no_close = path_no_close ts x.path h.a h.path_is; less = p.less; fine = p.fits n fits }
    entry_reads ts (entry_as.Declare ws t) rest fits h = let p = entry_passes Inner (fields_pass depth) ts (entry_as.Declare ws t) rest h in record { read = declare_gives ts ws t rest fits h; no_close = path_no_close ts ws h.a h.path_is; less = p.less; fine = p.fits n fits }

  entries_give : (ts : Tokens) (es : List Entry) (rest : Tokens) → (h : Braced (IsEntry Inner) ts es rest) → Fits 1 h.a → entries ts ≡ gives es rest
  unfolding entries
  entries_give ts es rest h fits = braced_gives (IsEntry Inner) entry (Fits 1) (entry_reads 1 (fields_give depth MAX_BRACES 1 (omega arith))) ts es rest h fits

  more : (ts : Tokens) (fs : List FieldTree) (rest : Tokens) → Fits 0 ts → IsFieldsWithin depth ts fs rest → fields MAX_BRACES ts ≡ gives fs rest
  more = fields_give depth MAX_BRACES 0 (omega arith)

  alias_gives : (ts : Tokens) (t : TypeTree) (ws : List Text) (rest : Tokens) → Fits 0 ts → IsAlias Inner ts t ws rest → sees s.Name rest ≡ false → alias ts ≡ gives (items.Alias t ws) rest
  unfolding alias
  alias_gives ts t ws rest fits h none =
      let behind = left_of s.Typealias ts h.type_is.a h.type_is.opens in
      let fits_a = (stands s.Typealias ts h.type_is.a (λ n. refl) h.type_is.opens).fits 0 fits in
      let of = type_gives Inner (fields MAX_BRACES) 0 (opens_brace depth) more (fields_pass depth) h.type_is.a t h.type_is.b fits_a h.type_is.part (behind_declare h.type_is.b h.a h.type_is.closes) (other s.Declare s.Name refl h.type_is.b (head_is s.Declare h.type_is.b h.a h.type_is.closes)) in
      let declare = expect_gives s.Declare h.type_is.b h.a h.type_is.closes in
      let read = words_give h.a ws rest h.words none in
      first_of (search rules, grind (arith, common_steps))

  block_gives : (kind : BlockKind) (ts : Tokens) (es : List Entry) (rest : Tokens) → Fits 0 ts → Behind (keyword_of kind) (Braced (IsEntry Inner)) ts es rest → ((n : ℕ) → opened_by n (keyword_of kind) ≡ n) → block kind ts ≡ gives (items.Block kind es) rest
  unfolding block
  block_gives kind ts es rest fits h flat =
      let behind = left_of (keyword_of kind) ts h.a h.opens in
      let fits_a = (stands (keyword_of kind) ts h.a flat h.opens).fits 0 fits in
      let read = entries_give h.a es rest h.part (inside 0 h.a h.part.a fits_a h.part.opens) in
      first_of (search rules, grind (arith, common_steps))

  declaration_gives : (ts : Tokens) (i : Item) (rest b : Tokens) → Fits 0 ts → IsDeclaration Inner ts i rest → Stands s.Semicolon rest b → declaration ts ≡ gives i rest
  unfolding declaration item_by
  declaration_gives ts (items.Alias t ws) rest b fits h semicolon =
      let front = head_is s.Typealias ts h.type_is.a h.type_is.opens in
      let read = alias_gives ts t ws rest fits h (other s.Semicolon s.Name refl rest (head_is s.Semicolon rest b semicolon)) in
      first_of (search rules, grind (arith, common_steps))
  declaration_gives ts (items.Struct t) rest b fits h semicolon =
      let front = head_is s.Struct ts h.a h.opens in
      let behind = left_of s.Struct ts h.a h.opens in
      let fits_a = (stands s.Struct ts h.a (λ n. refl) h.opens).fits 0 fits in
      let read = struct_gives Inner (fields MAX_BRACES) 0 (opens_brace depth) more (fields_pass depth) h.a t rest fits_a h.part (behind_semicolon rest b semicolon) in
      first_of (search rules, grind (arith, common_steps))
  declaration_gives ts (items.Variant t) rest b fits h semicolon =
      let front = head_is s.Variant ts h.a h.opens in
      let behind = left_of s.Variant ts h.a h.opens in
      let fits_a = (stands s.Variant ts h.a (λ n. refl) h.opens).fits 0 fits in
      let read = variant_gives Inner (fields MAX_BRACES) 0 (opens_brace depth) more (fields_pass depth) h.a t rest fits_a h.part (behind_semicolon rest b semicolon) in
      first_of (search rules, grind (arith, common_steps))
  declaration_gives ts (items.Enum e) rest b fits h semicolon =
      let front = head_is s.Enum ts h.a h.opens in
      let behind = left_of s.Enum ts h.a h.opens in
      let end = behind_semicolon rest b semicolon in
      let names = enum_ends Inner (fields MAX_BRACES) 0 (opens_brace depth) more (fields_pass depth) e.base e.labels rest (other s.Semicolon s.Name refl rest (head_is s.Semicolon rest b semicolon)) in
      let read = enum_gives h.a e rest h.part end.ends names in
      first_of (search rules, grind (arith, common_steps))
  declaration_gives ts (items.Block block_of.Trace es) rest b fits h semicolon = let front = head_is s.Trace ts h.a h.opens in let read = block_gives block_of.Trace ts es rest fits h (λ n. refl) in first_of (search rules, grind (arith, common_steps))
  declaration_gives ts (items.Block block_of.Stream es) rest b fits h semicolon = let front = head_is s.Stream ts h.a h.opens in let read = block_gives block_of.Stream ts es rest fits h (λ n. refl) in first_of (search rules, grind (arith, common_steps))
  declaration_gives ts (items.Block block_of.Event es) rest b fits h semicolon = let front = head_is s.Event ts h.a h.opens in let read = block_gives block_of.Event ts es rest fits h (λ n. refl) in first_of (search rules, grind (arith, common_steps))
  declaration_gives ts (items.Block block_of.Clock es) rest b fits h semicolon = let front = head_is s.Clock ts h.a h.opens in let read = block_gives block_of.Clock ts es rest fits h (λ n. refl) in first_of (search rules, grind (arith, common_steps))
  declaration_gives ts (items.Block block_of.Env es) rest b fits h semicolon = let front = head_is s.Env ts h.a h.opens in let read = block_gives block_of.Env ts es rest fits h (λ n. refl) in first_of (search rules, grind (arith, common_steps))
  declaration_gives ts (items.Block block_of.Callsite es) rest b fits h semicolon = let front = head_is s.Callsite ts h.a h.opens in let read = block_gives block_of.Callsite ts es rest fits h (λ n. refl) in first_of (search rules, grind (arith, common_steps))

  -- an item is read, wherever no braces are open and never too many
  pub item_gives : (ts : Tokens) (i : Item) (rest : Tokens) → Fits 0 ts → IsItemWith Inner ts i rest → item ts ≡ gives i rest
  unfolding item
  item_gives ts i rest fits h =
      let read = declaration_gives ts i h.a rest fits h.declaration h.semicolon in
      let close = expect_gives s.Semicolon h.a rest h.semicolon in
      first_of (search rules, grind (arith, common_steps))
