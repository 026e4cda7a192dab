-- What is in the grammar is read, with its tree.
use Rattle.std.proofs.Common.{◌≡◌, inl, inr, ℕ, ℤ, zero, suc, ◌<◌, ◌≤◌, true, false, List, [], ◌∷◌, ◌++◌, length, refl, ap, ◌∙◌, arith, rules, append_assoc, append-nil}
use Rattle.std.proofs.lemmas.Grind.{common_steps}
use Rattle.tsdl_parser.specs.declared.symbol.Symbol.TheVariants as s
use Rattle.tsdl_parser.specs.declared.tree.Attr.{Attr}
use Rattle.tsdl_parser.specs.declared.tree.AttrValue.{AttrValue}
use Rattle.tsdl_parser.specs.declared.tree.AttrValue.TheVariants as value
use Rattle.tsdl_parser.specs.Symbols.{word_symbol}
use Rattle.tsdl_parser.specs.Parsers.{Parser, and_then, sees, after, items_from, braced, pure, ◌<$>◌}
use Rattle.tsdl_parser.specs.Reading.{path_from, path, words_from, words, signed, value_by, attr_value, attr, attrs}
use Rattle.tsdl_parser.specs.Grammar.{Tokens, Text, Stands, IsWord, IsName, Part, Each, Behind, Braced, IsPath, IsWords, IsSigned, IsValue, IsAttr, IsAttrs}
use Rattle.tsdl_parser.proofs.Steps.{gives, head_is, sees_it, other, after_it, after_other, expect_gives, word_gives, number_gives, string_gives, name_stands, number_stands, string_stands, word_stands, name_gives, word_cases, word_no_close}
use Rattle.tsdl_parser.proofs.Passing.{Passes, weak, word_passes, name_passes, behind_passes, attr_passes}

dot_word_passes : (ts : Tokens) (w : Text) (rest : Tokens) → Behind s.Dot IsWord ts w rest → Passes ts rest
dot_word_passes = behind_passes IsWord s.Dot (λ n. refl) (λ ts w rest i. weak ts rest (word_passes ts rest w i))

path_goes_on : (ws : List Text) (n : ℕ) (found : List Text) (ts rest : Tokens) → Each (Behind s.Dot IsWord) ts ws rest → sees s.Dot rest ≡ false → length ts ≤ n → path_from n found ts ≡ gives (found ++ ws) rest
unfolding path_from
path_goes_on [] zero found ts rest h none enough = let e = append-nil found in first_of (search rules, grind (arith, common_steps))
path_goes_on [] (suc n) found ts rest h none enough =
    let e = append-nil found in
    let here : sees s.Dot ts ≡ false = ap (sees s.Dot) h ∙ none in
    let still = after_other s.Dot ts here in
    first_of (search rules, grind (arith, common_steps))
path_goes_on (w ∷ ws) zero found ts rest h none enough = absurd (let p = (dot_word_passes ts w h.0 h.1).less in omega (arith, p, enough))
path_goes_on (w ∷ ws) (suc n) found ts rest h none enough =
    let p = (dot_word_passes ts w h.0 h.1).less in
    let dot = sees_it s.Dot ts h.1.a h.1.opens in
    let behind = after_it s.Dot ts h.1.a h.1.opens in
    let read = word_gives h.1.a h.0 w h.1.part in
    let more = path_goes_on ws n (found ++ w ∷ []) h.0 rest h.2 none (omega (arith, p, enough)) in
    let same : (found ++ w ∷ []) ++ ws ≡ found ++ w ∷ ws = append_assoc found (w ∷ []) ws in
    first_of (search rules, grind (arith, common_steps))

pub path_gives : (ts : Tokens) (ws : List Text) (rest : Tokens) → IsPath ts ws rest → sees s.Dot rest ≡ false → path ts ≡ gives ws rest
unfolding path
path_gives ts [] rest h none = absurd h
path_gives ts (w ∷ ws) rest h none =
    let read = word_gives ts h.0 w h.1 in
    let more = path_goes_on ws (length h.0) (w ∷ []) h.0 rest h.2 none (omega arith) in
    first_of (search rules, grind (arith, common_steps))

words_go_on : (ws : List Text) (n : ℕ) (found : List Text) (ts rest : Tokens) → Each IsName ts ws rest → sees s.Name rest ≡ false → length ts ≤ n → words_from n found ts ≡ gives (found ++ ws) rest
unfolding words_from
words_go_on [] zero found ts rest h none enough = let e = append-nil found in first_of (search rules, grind (arith, common_steps))
words_go_on [] (suc n) found ts rest h none enough =
    let e = append-nil found in
    let here : sees s.Name ts ≡ false = ap (sees s.Name) h ∙ none in
    first_of (search rules, grind (arith, common_steps))
words_go_on (w ∷ ws) zero found ts rest h none enough = absurd (let p = (name_passes ts w h.0 h.1).less in omega (arith, p, enough))
words_go_on (w ∷ ws) (suc n) found ts rest h none enough =
    let p = (name_passes ts w h.0 h.1).less in
    let here = sees_it s.Name ts h.0 (name_stands ts h.0 w h.1) in
    let read = word_gives ts h.0 w h.1.word in
    let more = words_go_on ws n (found ++ w ∷ []) h.0 rest h.2 none (omega (arith, p, enough)) in
    let same : (found ++ w ∷ []) ++ ws ≡ found ++ w ∷ ws = append_assoc found (w ∷ []) ws in
    first_of (search rules, grind (arith, common_steps))

pub words_give : (ts : Tokens) (ws : List Text) (rest : Tokens) → IsWords ts ws rest → sees s.Name rest ≡ false → words ts ≡ gives ws rest
unfolding words
words_give ts [] rest h none = absurd h
words_give ts (w ∷ ws) rest h none =
    let read = name_gives ts h.0 w h.1 in
    let more = words_go_on ws (length h.0) (w ∷ []) h.0 rest h.2 none (omega arith) in
    first_of (search rules, grind (arith, common_steps))

pub signed_gives : (ts : Tokens) (z : ℤ) (rest : Tokens) → IsSigned ts z rest → signed ts ≡ gives z rest
unfolding signed
signed_gives ts z rest (inl h) =
    let minus = other s.Number s.Minus refl ts (head_is s.Number ts rest (number_stands ts rest h.0 h.2)) in
    let still = after_other s.Minus ts minus in
    let read = number_gives ts rest h.0 h.2 in
    let is = h.1 in
    first_of (search rules, grind (arith, common_steps))
signed_gives ts z rest (inr h) =
    let minus = sees_it s.Minus ts h.a h.opens in
    let behind = after_it s.Minus ts h.a h.opens in
    let read = number_gives h.a rest h.part.0 h.part.2 in
    let is = h.part.1 in
    first_of (search rules, grind (arith, common_steps))

path_head : (w : Text) → value_by (word_symbol w) ≡ (value.Path <$> path)
unfolding value_by
path_head = word_cases (λ x. value_by x ≡ (value.Path <$> path)) refl refl refl refl refl refl refl refl refl refl refl refl refl refl

pub value_gives : (ts : Tokens) (v : AttrValue) (rest : Tokens) → IsValue ts v rest → sees s.Dot rest ≡ false → attr_value ts ≡ gives v rest
unfolding attr_value value_by
value_gives ts (value.Signed z) rest (inl h) none =
    let front = head_is s.Number ts rest (number_stands ts rest h.0 h.2) in
    let read = signed_gives ts z rest (inl h) in
    first_of (search rules, grind (arith, common_steps))
value_gives ts (value.Signed z) rest (inr h) none =
    let front = head_is s.Minus ts h.a h.opens in
    let read = signed_gives ts z rest (inr h) in
    first_of (search rules, grind (arith, common_steps))
value_gives ts (value.Str text) rest h none =
    let front = head_is s.Str ts rest (string_stands ts rest text h) in
    let read = string_gives ts rest text h in
    first_of (search rules, grind (arith, common_steps))
value_gives ts (value.Path []) rest h none = absurd h
value_gives ts (value.Path (w ∷ ws)) rest h none =
    let front = head_is (word_symbol w) ts h.0 (word_stands ts h.0 w h.1) in
    let read = path_gives ts (w ∷ ws) rest h none in
    ap (λ x. value_by x ts) front ∙ ap (λ (p : Parser AttrValue). p ts) (path_head w) ∙ ap (λ o. and_then o (λ y. pure (value.Path y))) read

pub attr_gives : (ts : Tokens) (x : Attr) (rest : Tokens) → IsAttr ts x rest → attr ts ≡ gives x rest
unfolding attr
attr_gives ts x rest h =
    let p = path_gives ts x.path h.a h.path_is (other s.Assign s.Dot refl h.a (head_is s.Assign h.a h.value_is.a h.value_is.opens)) in
    let e = expect_gives s.Assign h.a h.value_is.a h.value_is.opens in
    let v = value_gives h.value_is.a x.value h.value_is.b h.value_is.part (other s.Semicolon s.Dot refl h.value_is.b (head_is s.Semicolon h.value_is.b rest h.value_is.closes)) in
    let c = expect_gives s.Semicolon h.value_is.b rest h.value_is.closes in
    first_of (search rules, grind (arith, common_steps))

-- items up to the closing brace, each of which begins with another symbol
module _ {A : Type 0} (P : Part A) (p : Parser A) (Fine : Tokens → Type 0) where
  pub record Reads (ts : Tokens) (x : A) (rest : Tokens) : Type 0 where
    pub read : p ts ≡ gives x rest
    pub no_close : sees s.CloseBrace ts ≡ false
    pub less : length rest < length ts
    pub fine : Fine rest

  items_go_on : ((ts : Tokens) (x : A) (rest : Tokens) → Fine ts → P ts x rest → Reads ts x rest) → (xs : List A) (n : ℕ) (found : List A) (ts b rest : Tokens) → Fine ts → Each P ts xs b → Stands s.CloseBrace b rest → length ts ≤ n → items_from p n found ts ≡ gives (found ++ xs) rest
  unfolding items_from
  items_go_on one [] zero found ts b rest fine h close enough = absurd (let l : length ts ≡ suc (length rest) = ap length (h ∙ close.front) in omega (arith, l, enough))
  items_go_on one [] (suc n) found ts b rest fine h close enough =
      let e = append-nil found in
      let here : sees s.CloseBrace ts ≡ true = ap (sees s.CloseBrace) h ∙ sees_it s.CloseBrace b rest close in
      let behind : after s.CloseBrace ts ≡ rest = ap (after s.CloseBrace) h ∙ after_it s.CloseBrace b rest close in
      first_of (search rules, grind (arith, common_steps))
  items_go_on one (x ∷ xs) zero found ts b rest fine h close enough = absurd (let l = (one ts x h.0 fine h.1).less in omega (arith, l, enough))
  items_go_on one (x ∷ xs) (suc n) found ts b rest fine h close enough =
      let r = one ts x h.0 fine h.1 in
      let read = r.read in
      let here = r.no_close in
      let still = after_other s.CloseBrace ts here in
      let more = items_go_on one xs n (found ++ x ∷ []) h.0 b rest r.fine h.2 close (let l = r.less in omega (arith, l, enough)) in
      let same : (found ++ x ∷ []) ++ xs ≡ found ++ x ∷ xs = append_assoc found (x ∷ []) xs in
      first_of (search rules, grind (arith, common_steps))

  pub braced_gives : ((ts : Tokens) (x : A) (rest : Tokens) → Fine ts → P ts x rest → Reads ts x rest) → (ts : Tokens) (xs : List A) (rest : Tokens) → (h : Braced P ts xs rest) → Fine h.a → braced p ts ≡ gives xs rest
  braced_gives one ts xs rest h fine =
      let open_brace = expect_gives s.OpenBrace ts h.a h.opens in
      let all = items_go_on one xs (length h.a) [] h.a h.b rest fine h.part h.closes (omega arith) in
      first_of (search rules, grind (arith, common_steps))

pub path_no_close : (ts : Tokens) (ws : List Text) (rest : Tokens) → IsPath ts ws rest → sees s.CloseBrace ts ≡ false
path_no_close ts [] rest h = absurd h
path_no_close ts (w ∷ ws) rest h = word_no_close ts h.0 w h.1

pub attrs_give : (ts : Tokens) (xs : List Attr) (rest : Tokens) → IsAttrs ts xs rest → attrs ts ≡ gives xs rest
unfolding attrs
attrs_give ts xs rest h = braced_gives IsAttr attr (λ ts. Unit {0}) (λ ts x rest fine i. record { read = attr_gives ts x rest i; no_close = path_no_close ts x.path i.a i.path_is; less = (attr_passes ts x rest i).less; fine = tt {0} }) ts xs rest h (tt {0})
