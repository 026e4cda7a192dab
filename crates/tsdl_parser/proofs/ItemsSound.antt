-- What is read of a declaration is in the grammar.
use Rattle.std.proofs.Common.{◌≡◌, Bool, true, false, List, drop, None, refl, sym, subst}
use Rattle.std.specs.Prelude.{if◌then◌else◌}
use denote.Enum.Bare.{sameb}
use Rattle.tsdl_parser.specs.declared.symbol.Symbol.{Symbol}
use Rattle.tsdl_parser.specs.declared.symbol.Symbol.TheVariants as s
use Rattle.tsdl_parser.specs.contracts.symbol.Symbol.{the_type}
use Rattle.tsdl_parser.specs.declared.tree.TypeTree.{TypeTree}
use Rattle.tsdl_parser.specs.declared.tree.FieldTree.{FieldTree}
use Rattle.tsdl_parser.specs.declared.tree.Entry.{Entry}
use Rattle.tsdl_parser.specs.declared.tree.Entry.TheVariants as entry_as
use Rattle.tsdl_parser.specs.declared.tree.BlockKind.{BlockKind}
use Rattle.tsdl_parser.specs.declared.tree.BlockKind.TheVariants as block_of
use Rattle.tsdl_parser.specs.declared.tree.Item.{Item}
use Rattle.tsdl_parser.specs.declared.tree.Item.TheVariants as items
use Rattle.tsdl_parser.specs.Symbols.{head}
use Rattle.tsdl_parser.specs.Parsers.{Parser, and_then, sees, after, expect, pure}
use Rattle.tsdl_parser.specs.Reading.{MAX_BRACES, path, attr_value, words, enum_tree, struct_tree, variant_tree, type_tree, fields, entry, entries, block, alias, item_by, declaration, item}
use Rattle.tsdl_parser.specs.Grammar.{Tokens, Text, Stands, Part, Behind, Braced, IsPath, IsWords, IsEnum, IsStruct, IsVariant, IsType, IsFieldsWithin, IsEntry, keyword_of, IsDeclaration, IsItemWith}
use Rattle.tsdl_parser.proofs.Steps.{gives, sees_stands, pair_is, bound, symbol_cases, seen_head}
use Rattle.tsdl_parser.proofs.Sound.{no_end, eaten, kept, expected, path_sound, words_sound, value_sound, braced_sound}
use Rattle.tsdl_parser.proofs.EnumsSound.{behind_sound, enum_sound}
use Rattle.tsdl_parser.proofs.TypesSound.{struct_sound, variant_sound, type_sound, fields_sound}

abbrev Inner : Part (List FieldTree)
Inner = IsFieldsWithin MAX_BRACES

inner_type : (ts : Tokens) (t : TypeTree) (rest : Tokens) → type_tree (fields MAX_BRACES) ts ≡ gives t rest → IsType Inner ts t rest
inner_type = type_sound Inner (fields MAX_BRACES) (fields_sound MAX_BRACES)

abbrev assigned : List Text → Parser Entry
assigned ws = λ l. and_then (attr_value l) (λ v l. and_then (expect s.Semicolon l) (λ _. pure (entry_as.Assign (record { path = ws; value = v }))))

abbrev declared : List Text → Parser Entry
declared ws = λ l. and_then (expect s.Declare l) (λ _ l. and_then (type_tree (fields MAX_BRACES) l) (λ of l. and_then (expect s.Semicolon l) (λ _. pure (entry_as.Declare ws of))))

entry_sound : (ts : Tokens) (x : Entry) (rest : Tokens) → entry ts ≡ gives x rest → IsEntry Inner ts x rest
unfolding entry
entry_sound ts x rest e =
    let p = bound (path ts) _ (x, rest) e in
    by p.0.0 p.0.1 (path_sound ts p.0.0 p.0.1 p.1) (sees s.Assign p.0.1) refl p.2
  where
    by : (ws : List Text) (a : Tokens) → IsPath ts ws a → (b : Bool) → sees s.Assign a ≡ b → (if b then assigned ws else declared ws) (after s.Assign a) ≡ gives x rest → IsEntry Inner ts x rest
    by ws a h true is e =
        let v = bound (attr_value (after s.Assign a)) _ (x, rest) e in
        let c = bound (expect s.Semicolon v.0.1) _ (x, rest) v.2 in
        let same = pair_is c.2 in
        subst (λ y. IsEntry Inner ts y rest) same.0 (record { a = a; path_is = h; value_is = record { a = after s.Assign a; b = v.0.1; opens = eaten s.Assign a refl is; part = value_sound (after s.Assign a) v.0.0 v.0.1 v.1; closes = subst (Stands s.Semicolon v.0.1) same.1 (expected s.Semicolon v.0.1 c.0.1 c.0.0 refl c.1) } })
    by ws a h false is e =
        let d = bound (expect s.Declare (after s.Assign a)) _ (x, rest) e in
        let t = bound (type_tree (fields MAX_BRACES) d.0.1) _ (x, rest) d.2 in
        let c = bound (expect s.Semicolon t.0.1) _ (x, rest) t.2 in
        let same = pair_is c.2 in
        let opens : Stands s.Declare a d.0.1 = subst (λ l. Stands s.Declare l d.0.1) (sym (kept s.Assign a is)) (expected s.Declare (after s.Assign a) d.0.1 d.0.0 refl d.1) in
        subst (λ y. IsEntry Inner ts y rest) same.0 (record { a = a; path_is = h; type_is = record { a = d.0.1; b = t.0.1; opens = opens; part = inner_type d.0.1 t.0.0 t.0.1 t.1; closes = subst (Stands s.Semicolon t.0.1) same.1 (expected s.Semicolon t.0.1 c.0.1 c.0.0 refl c.1) } })

entries_sound : (ts : Tokens) (es : List Entry) (rest : Tokens) → entries ts ≡ gives es rest → Braced (IsEntry Inner) ts es rest
unfolding entries
entries_sound = braced_sound (IsEntry Inner) entry entry_sound

block_sound : (kind : BlockKind) (ts : Tokens) (i : Item) (rest : Tokens) → head ts ≡ keyword_of kind → sameb the_type s.End (keyword_of kind) ≡ false → block kind ts ≡ gives i rest → IsDeclaration Inner ts i rest
unfolding block
block_sound kind ts i rest front apart e =
    let x = bound (entries (drop 1 ts)) (λ all. pure (items.Block kind all)) (i, rest) e in
    let same = pair_is x.2 in
    subst (λ y. IsDeclaration Inner ts y rest) same.0 (behind_sound (Braced (IsEntry Inner)) (keyword_of kind) ts x.0.0 rest apart (seen_head (keyword_of kind) ts front) (subst (Braced (IsEntry Inner) (drop 1 ts) x.0.0) same.1 (entries_sound (drop 1 ts) x.0.0 x.0.1 x.1)))

alias_sound : (ts : Tokens) (i : Item) (rest : Tokens) → head ts ≡ s.Typealias → alias ts ≡ gives i rest → IsDeclaration Inner ts i rest
unfolding alias
alias_sound ts i rest front e =
    let t = bound (type_tree (fields MAX_BRACES) (drop 1 ts)) _ (i, rest) e in
    let d = bound (expect s.Declare t.0.1) _ (i, rest) t.2 in
    let w = bound (words d.0.1) _ (i, rest) d.2 in
    let same = pair_is w.2 in
    subst (λ y. IsDeclaration Inner ts y rest) same.0 (record { a = d.0.1; type_is = record { a = drop 1 ts; b = t.0.1; opens = sees_stands s.Typealias ts (seen_head s.Typealias ts front) (no_end s.Typealias refl); part = inner_type (drop 1 ts) t.0.0 t.0.1 t.1; closes = expected s.Declare t.0.1 d.0.1 d.0.0 refl d.1 }; words = subst (IsWords d.0.1 w.0.0) same.1 (words_sound d.0.1 w.0.0 w.0.1 w.1) })

behind_keyword : {A : Type 0} (P : Part A) (y : Symbol) (make : A → Item) (p : Parser A) (ts : Tokens) (i : Item) (rest : Tokens) → sameb the_type s.End y ≡ false → head ts ≡ y → ((x : A) (l : Tokens) → p (drop 1 ts) ≡ gives x l → P (drop 1 ts) x l) → ((x : A) → Behind y P ts x rest → IsDeclaration Inner ts (make x) rest) → and_then (p (drop 1 ts)) (λ x. pure (make x)) ≡ gives i rest → IsDeclaration Inner ts i rest
behind_keyword P y make p ts i rest apart front sound turn e =
    let x = bound (p (drop 1 ts)) (λ x. pure (make x)) (i, rest) e in
    let same = pair_is x.2 in
    subst (λ z. IsDeclaration Inner ts z rest) same.0 (turn x.0.0 (behind_sound P y ts x.0.0 rest apart (seen_head y ts front) (subst (P (drop 1 ts) x.0.0) same.1 (sound x.0.0 x.0.1 x.1))))

declaration_by : (i : Item) (ts rest : Tokens) (x : Symbol) → head ts ≡ x → item_by x ts ≡ gives i rest → IsDeclaration Inner ts i rest
unfolding item_by
declaration_by i ts rest = symbol_cases (λ x. head ts ≡ x → item_by x ts ≡ gives i rest → IsDeclaration Inner ts i rest)
    (λ front e. none e) (λ front e. none e) (λ front e. none e) (λ front e. none e) (λ front e. alias_sound ts i rest front e) (λ front e. behind_keyword (IsStruct Inner) s.Struct items.Struct (struct_tree (fields MAX_BRACES)) ts i rest refl front (struct_sound Inner (fields MAX_BRACES) (fields_sound MAX_BRACES) (drop 1 ts)) (λ x h. h) e) (λ front e. behind_keyword (IsVariant Inner) s.Variant items.Variant (variant_tree (fields MAX_BRACES)) ts i rest refl front (variant_sound Inner (fields MAX_BRACES) (fields_sound MAX_BRACES) (drop 1 ts)) (λ x h. h) e) (λ front e. behind_keyword IsEnum s.Enum items.Enum enum_tree ts i rest refl front (enum_sound (drop 1 ts)) (λ x h. h) e) (λ front e. none e) (λ front e. none e) (λ front e. none e) (λ front e. block_sound block_of.Trace ts i rest front refl e) (λ front e. block_sound block_of.Stream ts i rest front refl e) (λ front e. block_sound block_of.Event ts i rest front refl e) (λ front e. block_sound block_of.Clock ts i rest front refl e) (λ front e. block_sound block_of.Env ts i rest front refl e) (λ front e. block_sound block_of.Callsite ts i rest front refl e) (λ front e. none e) (λ front e. none e) (λ front e. none e) (λ front e. none e) (λ front e. none e) (λ front e. none e) (λ front e. none e) (λ front e. none e) (λ front e. none e) (λ front e. none e) (λ front e. none e) (λ front e. none e) (λ front e. none e) (λ front e. none e) (λ front e. none e) (λ front e. none e)
  where
    none : None ≡ gives i rest → IsDeclaration Inner ts i rest
    none e = absurd (cc)

-- an item that is read is one of the grammar
pub item_sound : (ts : Tokens) (i : Item) (rest : Tokens) → item ts ≡ gives i rest → IsItemWith Inner ts i rest
unfolding item declaration
item_sound ts i rest e =
    let d = bound (item_by (head ts) ts) _ (i, rest) e in
    let c = bound (expect s.Semicolon d.0.1) _ (i, rest) d.2 in
    let same = pair_is c.2 in
    subst (λ y. IsItemWith Inner ts y rest) same.0 (record { a = d.0.1; declaration = declaration_by d.0.0 ts d.0.1 (head ts) refl d.1; semicolon = subst (Stands s.Semicolon d.0.1) same.1 (expected s.Semicolon d.0.1 c.0.1 c.0.0 refl c.1) })
