-- Enumerations that are in the grammar are read.
use Rattle.std.proofs.Common.{◌≡◌, inl, inr, ℕ, ℤ, zero, suc, ◌≤◌, true, false, List, [], ◌∷◌, ◌++◌, length, drop, Option, Some, None, refl, ap, ◌∙◌, arith, rules, append_assoc}
use Rattle.std.specs.Prelude.{◌||◌}
use Rattle.std.proofs.lemmas.Grind.{common_steps}
use Rattle.tsdl_parser.specs.declared.symbol.Symbol.TheVariants as s
use Rattle.tsdl_parser.specs.declared.tree.EnumTree.{EnumTree}
use Rattle.tsdl_parser.specs.declared.tree.EnumBase.{EnumBase}
use Rattle.tsdl_parser.specs.declared.tree.EnumBase.TheVariants as base
use Rattle.tsdl_parser.specs.declared.tree.Label.{Label}
use Rattle.tsdl_parser.specs.Symbols.{head}
use Rattle.tsdl_parser.specs.Parsers.{sees, after, word, if_seen, skip, ◌>>◌}
use Rattle.tsdl_parser.specs.Reading.{signed, attrs, label_name_by, label_name, range_end, label, labels_from, labels, base_by, enum_base, is_some, enum_tree}
use Rattle.tsdl_parser.specs.Grammar.{Tokens, Text, Stands, IsName, Maybe, Behind, Between, IsSigned, IsLabelName, IsRangeIfAny, IsLabel, AreMoreLabels, AreLabels, IsBase, HasOne, IsEnum}
use Rattle.tsdl_parser.proofs.Steps.{gives, head_is, sees_it, left_of, other, after_it, after_other, expect_gives, word_gives, string_gives, name_stands, string_stands, name_gives, unseen, seen}
use Rattle.tsdl_parser.proofs.Passing.{label_passes}
use Rattle.tsdl_parser.proofs.Giving.{signed_gives, words_give, attrs_give}

label_name_gives : (ts : Tokens) (text : Text) (rest : Tokens) → IsLabelName ts text rest → label_name ts ≡ gives text rest
unfolding label_name label_name_by
label_name_gives ts text rest (inl h) =
    let front = head_is s.Name ts rest (name_stands ts rest text h) in
    let read = name_gives ts rest text h in
    first_of (search rules, grind (arith, common_steps))
label_name_gives ts text rest (inr h) =
    let front = head_is s.Str ts rest (string_stands ts rest text h) in
    let read = string_gives ts rest text h in
    first_of (search rules, grind (arith, common_steps))

label_no_close : (ts : Tokens) (l : Label) (rest : Tokens) → IsLabel ts l rest → sees s.CloseBrace ts ≡ false
label_no_close ts l rest h = by h.name_is
  where
    by : IsLabelName ts l.name h.a → sees s.CloseBrace ts ≡ false
    by (inl n) = other s.Name s.CloseBrace refl ts (head_is s.Name ts h.a (name_stands ts h.a l.name n))
    by (inr n) = other s.Str s.CloseBrace refl ts (head_is s.Str ts h.a (string_stands ts h.a l.name n))

range_end_gives : (ts : Tokens) (o : Option ℤ) (rest : Tokens) → Maybe (Behind s.Ellipsis IsSigned) ts o rest → sees s.Ellipsis rest ≡ false → range_end ts ≡ gives o rest
unfolding range_end
range_end_gives ts None rest h none = unseen s.Ellipsis (skip >> signed) ts (ap (sees s.Ellipsis) h ∙ none) ∙ ap (λ r. gives None r) h
range_end_gives ts (Some z) rest h none =
    let read = signed_gives h.a z rest h.part in
    let behind = left_of s.Ellipsis ts h.a h.opens in
    let both : (skip >> signed) ts ≡ gives z rest = ap signed behind ∙ read in
    seen s.Ellipsis (skip >> signed) ts rest z (sees_it s.Ellipsis ts h.a h.opens) both

label_gives : (ts : Tokens) (l : Label) (rest : Tokens) → IsLabel ts l rest → sees s.Assign rest ≡ false → sees s.Ellipsis rest ≡ false → label ts ≡ gives l rest
unfolding label
label_gives ts l rest h no_assign no_ellipsis = by l.low l.high refl refl h.range_is
  where
    by : (low high : Option ℤ) → l.low ≡ low → l.high ≡ high → IsRangeIfAny h.a low high rest → label ts ≡ gives l rest
    by None None low_is high_is range =
        let named = label_name_gives ts l.name h.a h.name_is in
        let here : sees s.Assign h.a ≡ false = ap (sees s.Assign) range ∙ no_assign in
        let still = after_other s.Assign h.a here in
        first_of (search rules, grind (arith, common_steps))
    by None (Some z) low_is high_is range = absurd range
    by (Some low) high low_is high_is range =
        let named = label_name_gives ts l.name h.a h.name_is in
        let here = sees_it s.Assign h.a range.low_is.a range.low_is.opens in
        let behind = after_it s.Assign h.a range.low_is.a range.low_is.opens in
        let first = signed_gives range.low_is.a low range.a range.low_is.part in
        let last = range_end_gives range.a high rest range.high_is no_ellipsis in
        first_of (search rules, grind (arith, common_steps))

labels_go_on : (l : Label) (ls : List Label) (n : ℕ) (found : List Label) (ts a b rest : Tokens) → IsLabel ts l a → AreMoreLabels a ls b → Stands s.CloseBrace b rest → length ts ≤ n → labels_from n found ts ≡ gives (found ++ l ∷ ls) rest
unfolding labels_from
labels_go_on l ls zero found ts a b rest h more close enough = absurd (let p = (label_passes ts l a h).less in omega (arith, p, enough))
labels_go_on l [] (suc n) found ts a b rest h (inl same) close enough =
    let front : head a ≡ s.CloseBrace = ap head same ∙ head_is s.CloseBrace b rest close in
    let read = label_gives ts l a h (other s.CloseBrace s.Assign refl a front) (other s.CloseBrace s.Ellipsis refl a front) in
    let no_comma = other s.CloseBrace s.Comma refl a front in
    let still = after_other s.Comma a no_comma in
    let closed : sees s.CloseBrace a ≡ true = ap (sees s.CloseBrace) same ∙ sees_it s.CloseBrace b rest close in
    let behind : after s.CloseBrace a ≡ rest = ap (after s.CloseBrace) same ∙ after_it s.CloseBrace b rest close in
    first_of (search rules, grind (arith, common_steps))
labels_go_on l [] (suc n) found ts a b rest h (inr comma) close enough =
    let front = head_is s.Comma a b comma in
    let read = label_gives ts l a h (other s.Comma s.Assign refl a front) (other s.Comma s.Ellipsis refl a front) in
    let seen_comma = sees_it s.Comma a b comma in
    let on = after_it s.Comma a b comma in
    let closed = sees_it s.CloseBrace b rest close in
    let behind = after_it s.CloseBrace b rest close in
    first_of (search rules, grind (arith, common_steps))
labels_go_on l (m ∷ ms) (suc n) found ts a b rest h more close enough =
    let p = (label_passes ts l a h).less in
    let next = more.1 in
    let front = head_is s.Comma a next.a next.opens in
    let read = label_gives ts l a h (other s.Comma s.Assign refl a front) (other s.Comma s.Ellipsis refl a front) in
    let seen_comma = sees_it s.Comma a next.a next.opens in
    let on = after_it s.Comma a next.a next.opens in
    let open_still = label_no_close next.a m more.0 next.part in
    let still = after_other s.CloseBrace next.a open_still in
    let size : length a ≡ suc (length next.a) = ap length next.opens.front in
    let others = labels_go_on m ms n (found ++ l ∷ []) next.a more.0 b rest next.part more.2 close (omega (arith, p, enough, size)) in
    let same : (found ++ l ∷ []) ++ m ∷ ms ≡ found ++ l ∷ m ∷ ms = append_assoc found (l ∷ []) (m ∷ ms) in
    first_of (search rules, grind (arith, common_steps))

labels_give : (ts : Tokens) (ls : List Label) (rest : Tokens) → Between s.OpenBrace AreLabels s.CloseBrace ts ls rest → labels ts ≡ gives ls rest
unfolding labels
labels_give ts [] rest h = absurd h.part
labels_give ts (l ∷ ls) rest h =
    let open_brace = expect_gives s.OpenBrace ts h.a h.opens in
    let all = labels_go_on l ls (length h.a) [] h.a h.part.0 h.b rest h.part.1 h.part.2 h.closes (omega arith) in
    first_of (search rules, grind (arith, common_steps))

-- a base that is words goes on with any name after it
abbrev pub NamesEnd : Option EnumBase → Tokens → Type 0
NamesEnd None rest = Unit {0}
NamesEnd (Some (base.Integer xs)) rest = Unit {0}
NamesEnd (Some (base.Words ws)) rest = sees s.Name rest ≡ false

base_gives : (ts : Tokens) (b : EnumBase) (rest : Tokens) → IsBase ts b rest → NamesEnd (Some b) rest → base_by (head ts) ts ≡ gives b rest
unfolding base_by
base_gives ts (base.Integer xs) rest h names =
    let front = head_is s.Integer ts h.a h.opens in
    let behind = left_of s.Integer ts h.a h.opens in
    let read : attrs (drop 1 ts) ≡ gives xs rest = ap attrs behind ∙ attrs_give h.a xs rest h.part in
    first_of (search rules, grind (arith, common_steps))
base_gives ts (base.Words []) rest h names = absurd h
base_gives ts (base.Words (w ∷ ws)) rest h names =
    let front = head_is s.Name ts h.0 (name_stands ts h.0 w h.1) in
    let read = words_give ts (w ∷ ws) rest h names in
    first_of (search rules, grind (arith, common_steps))

base_if_any_gives : (ts : Tokens) (o : Option EnumBase) (rest : Tokens) → Maybe (Behind s.Colon IsBase) ts o rest → sees s.Colon rest ≡ false → NamesEnd o rest → if_seen s.Colon enum_base ts ≡ gives o rest
unfolding enum_base
base_if_any_gives ts None rest h none names = unseen s.Colon enum_base ts (ap (sees s.Colon) h ∙ none) ∙ ap (λ r. gives None r) h
base_if_any_gives ts (Some b) rest h none names =
    let behind = left_of s.Colon ts h.a h.opens in
    let read : enum_base ts ≡ gives b rest = ap (λ l. base_by (head l) l) behind ∙ base_gives h.a b rest h.part names in
    seen s.Colon enum_base ts rest b (sees_it s.Colon ts h.a h.opens) read

labels_if_any_give : (ts : Tokens) (o : Option (List Label)) (rest : Tokens) → Maybe (Between s.OpenBrace AreLabels s.CloseBrace) ts o rest → sees s.OpenBrace rest ≡ false → if_seen s.OpenBrace labels ts ≡ gives o rest
labels_if_any_give ts None rest h none = unseen s.OpenBrace labels ts (ap (sees s.OpenBrace) h ∙ none) ∙ ap (λ r. gives None r) h
labels_if_any_give ts (Some ls) rest h none = seen s.OpenBrace labels ts rest ls (sees_it s.OpenBrace ts h.a h.opens) (labels_give ts ls rest h)

pub name_if_any_gives : (ts : Tokens) (o : Option Text) (rest : Tokens) → Maybe IsName ts o rest → (o ≡ None → sees s.Name ts ≡ false) → if_seen s.Name word ts ≡ gives o rest
name_if_any_gives ts None rest h none = unseen s.Name word ts (none refl) ∙ ap (λ r. gives None r) h
name_if_any_gives ts (Some w) rest h none = seen s.Name word ts rest w (sees_it s.Name ts rest (name_stands ts rest w h)) (word_gives ts rest w h.word)

-- what may stand after a type
pub record Ends (rest : Tokens) : Type 0 where
  pub no_brace : sees s.OpenBrace rest ≡ false
  pub no_colon : sees s.Colon rest ≡ false
  pub no_less : sees s.Less rest ≡ false

-- an enumeration without labels whose base is words goes on with any name after it
abbrev pub EnumEnds : Option EnumBase → Option (List Label) → Tokens → Type 0
EnumEnds of None rest = NamesEnd of rest
EnumEnds of (Some ls) rest = Unit {0}

pub enum_gives : (ts : Tokens) (e : EnumTree) (rest : Tokens) → IsEnum ts e rest → Ends rest → EnumEnds e.base e.labels rest → enum_tree ts ≡ gives e rest
unfolding enum_tree
enum_gives ts e rest h end names =
    let read_name = name_if_any_gives ts e.name h.a h.name_is (unnamed e.name e.base e.labels h.name_is h.base_is h.labels_are h.some) in
    let read_base = base_if_any_gives h.a e.base h.b h.base_is (no_colon e.labels h.labels_are) (base_ends e.base e.labels h.labels_are names) in
    let read_labels = labels_if_any_give h.b e.labels rest h.labels_are end.no_brace in
    let one = has_one e.name e.labels h.some in
    first_of (search rules, grind (arith, common_steps))
  where
    no_colon : (ls : Option (List Label)) → Maybe (Between s.OpenBrace AreLabels s.CloseBrace) h.b ls rest → sees s.Colon h.b ≡ false
    no_colon None l = ap (sees s.Colon) l ∙ end.no_colon
    no_colon (Some ls) l = other s.OpenBrace s.Colon refl h.b (head_is s.OpenBrace h.b l.a l.opens)

    base_ends : (of : Option EnumBase) (ls : Option (List Label)) → Maybe (Between s.OpenBrace AreLabels s.CloseBrace) h.b ls rest → EnumEnds of ls rest → NamesEnd of h.b
    base_ends None ls l n = tt {0}
    base_ends (Some (base.Integer xs)) ls l n = tt {0}
    base_ends (Some (base.Words ws)) None l n = ap (sees s.Name) l ∙ n
    base_ends (Some (base.Words ws)) (Some ls) l n = other s.OpenBrace s.Name refl h.b (head_is s.OpenBrace h.b l.a l.opens)

    unnamed : (called : Option Text) (of : Option EnumBase) (ls : Option (List Label)) → Maybe IsName ts called h.a → Maybe (Behind s.Colon IsBase) h.a of h.b → Maybe (Between s.OpenBrace AreLabels s.CloseBrace) h.b ls rest → HasOne called ls → called ≡ None → sees s.Name ts ≡ false
    unnamed (Some w) of ls n b l some e = absurd (cc)
    unnamed None of None n b l some e = absurd some
    unnamed None None (Some ls) n b l some e = ap (sees s.Name) (n ∙ b) ∙ other s.OpenBrace s.Name refl h.b (head_is s.OpenBrace h.b l.a l.opens)
    unnamed None (Some x) (Some ls) n b l some e = ap (sees s.Name) n ∙ other s.Colon s.Name refl h.a (head_is s.Colon h.a b.a b.opens)

    has_one : (called : Option Text) (ls : Option (List Label)) → HasOne called ls → (is_some called || is_some ls) ≡ true
    has_one (Some w) ls some = refl
    has_one None (Some ls) some = refl
    has_one None None some = absurd some
