-- What is read is in the grammar: words, paths, values, attributes.
use Rattle.std.proofs.Common.{◌≡◌, ◌≢◌, ◌⊎◌, inl, inr, ℕ, ℤ, pos, neg_ℤ, zero, suc, Bool, true, false, cond, List, [], ◌∷◌, ◌++◌, length, drop, refl, sym, ap, ◌∙◌, subst, append_assoc, append-nil}
use Rattle.std.specs.Prelude.{if◌then◌else◌}
use denote.Enum.Bare.{sameb, same_false}
use Rattle.tsdl_parser.specs.declared.symbol.Symbol.{Symbol}
use Rattle.tsdl_parser.specs.declared.symbol.Symbol.TheVariants as s
use Rattle.tsdl_parser.specs.contracts.symbol.Symbol.{the_type}
use Rattle.tsdl_parser.specs.declared.tree.Attr.{Attr}
use Rattle.tsdl_parser.specs.declared.tree.AttrValue.{AttrValue}
use Rattle.tsdl_parser.specs.declared.tree.AttrValue.TheVariants as value
use Rattle.tsdl_parser.specs.Symbols.{head}
use Rattle.tsdl_parser.specs.Parsers.{Parser, and_then, sees, after, expect, items_from, braced, word, number, string, name, pure}
use Rattle.tsdl_parser.specs.Reading.{path_from, path, words_from, words, signed, value_by, attr_value, attr, attrs}
use Rattle.tsdl_parser.specs.Grammar.{Tokens, Text, Stands, IsWord, IsName, IsNumber, IsString, Part, Each, Behind, Braced, IsPath, IsWords, IsSigned, IsValue, IsAttr, IsAttrs}
use Rattle.tsdl_parser.proofs.Steps.{gives, sees_stands, pair_is, expect_stands, word_is, number_is, string_is, seen_name, name_is, bound, after_other, symbol_cases}

pub no_end : (y : Symbol) → sameb the_type s.End y ≡ false → s.End ≢ y
no_end y = same_false the_type s.End y

pub eaten : (y : Symbol) (ts : Tokens) → sameb the_type s.End y ≡ false → sees y ts ≡ true → Stands y ts (after y ts)
unfolding after
eaten y ts apart is = subst (Stands y ts) (sym (ap (λ b. cond b (drop 1 ts) ts) is)) (sees_stands y ts is (no_end y apart))

pub kept : (y : Symbol) (ts : Tokens) → sees y ts ≡ false → ts ≡ after y ts
kept y ts none = sym (after_other y ts none)

pub expected : (y : Symbol) (ts rest : Tokens) (u : Unit {0}) → sameb the_type s.End y ≡ false → expect y ts ≡ gives u rest → Stands y ts rest
expected y ts rest u apart e = expect_stands y ts rest u (no_end y apart) e

-- a list that was read after others
pub record More {A : Type 0} (P : Part A) (found : List A) (ts : Tokens) (all : List A) (rest : Tokens) : Type 0 where
  pub more : List A
  pub is : all ≡ found ++ more
  pub each : Each P ts more rest

pub no_more : {A : Type 0} (P : Part A) (found : List A) (ts all_left : Tokens) (all : List A) → found ≡ all → ts ≡ all_left → More P found ts all all_left
no_more P found ts rest all is left = record { more = []; is = sym is ∙ sym (append-nil found); each = left }

pub one_more : {A : Type 0} (P : Part A) (found : List A) (x : A) (ts a : Tokens) (all : List A) (rest : Tokens) → P ts x a → More P (found ++ x ∷ []) a all rest → More P found ts all rest
one_more P found x ts a all rest h m = record { more = x ∷ m.more; is = m.is ∙ append_assoc found (x ∷ []) m.more; each = (a, h, m.each) }

path_more : (n : ℕ) (found ws : List Text) (ts rest : Tokens) → path_from n found ts ≡ gives ws rest → More (Behind s.Dot IsWord) found ts ws rest
unfolding path_from
path_more zero found ws ts rest e = no_more (Behind s.Dot IsWord) found ts rest ws (pair_is e).0 (pair_is e).1
path_more (suc n) found ws ts rest e = by (sees s.Dot ts) refl e (λ w. path_more n (found ++ w ∷ []) ws)
  where
    by : (b : Bool) → sees s.Dot ts ≡ b → (if b then (λ l. and_then (word l) (λ w. path_from n (found ++ w ∷ []))) else pure found) (after s.Dot ts) ≡ gives ws rest → ((w : Text) (l rest : Tokens) → path_from n (found ++ w ∷ []) l ≡ gives ws rest → More (Behind s.Dot IsWord) (found ++ w ∷ []) l ws rest) → More (Behind s.Dot IsWord) found ts ws rest
    by false is e go = no_more (Behind s.Dot IsWord) found ts rest ws (pair_is e).0 (kept s.Dot ts is ∙ (pair_is e).1)
    by true is e go =
        let w = bound (word (after s.Dot ts)) (λ w. path_from n (found ++ w ∷ [])) (ws, rest) e in
        one_more (Behind s.Dot IsWord) found w.0.0 ts w.0.1 ws rest (record { a = after s.Dot ts; opens = eaten s.Dot ts refl is; part = word_is (after s.Dot ts) w.0.1 w.0.0 w.1 }) (go w.0.0 w.0.1 rest w.2)

pub path_sound : (ts : Tokens) (ws : List Text) (rest : Tokens) → path ts ≡ gives ws rest → IsPath ts ws rest
unfolding path
path_sound ts ws rest e =
    let w = bound (word ts) (λ w l. path_from (length l) (w ∷ []) l) (ws, rest) e in
    let m = path_more (length w.0.1) (w.0.0 ∷ []) ws w.0.1 rest w.2 in
    subst (λ l. IsPath ts l rest) (sym m.is) (w.0.1, word_is ts w.0.1 w.0.0 w.1, m.each)

words_more : (n : ℕ) (found ws : List Text) (ts rest : Tokens) → words_from n found ts ≡ gives ws rest → More IsName found ts ws rest
unfolding words_from
words_more zero found ws ts rest e = no_more IsName found ts rest ws (pair_is e).0 (pair_is e).1
words_more (suc n) found ws ts rest e = by (sees s.Name ts) refl e (λ w. words_more n (found ++ w ∷ []) ws)
  where
    by : (b : Bool) → sees s.Name ts ≡ b → (if b then and_then (word ts) (λ w. words_from n (found ++ w ∷ [])) else pure found ts) ≡ gives ws rest → ((w : Text) (l rest : Tokens) → words_from n (found ++ w ∷ []) l ≡ gives ws rest → More IsName (found ++ w ∷ []) l ws rest) → More IsName found ts ws rest
    by false is e go = no_more IsName found ts rest ws (pair_is e).0 (pair_is e).1
    by true is e go =
        let w = bound (word ts) (λ w. words_from n (found ++ w ∷ [])) (ws, rest) e in
        one_more IsName found w.0.0 ts w.0.1 ws rest (seen_name ts w.0.1 w.0.0 is w.1) (go w.0.0 w.0.1 rest w.2)

pub words_sound : (ts : Tokens) (ws : List Text) (rest : Tokens) → words ts ≡ gives ws rest → IsWords ts ws rest
unfolding words
words_sound ts ws rest e =
    let w = bound (name ts) (λ w l. words_from (length l) (w ∷ []) l) (ws, rest) e in
    let m = words_more (length w.0.1) (w.0.0 ∷ []) ws w.0.1 rest w.2 in
    subst (λ l. IsWords ts l rest) (sym m.is) (w.0.1, name_is ts w.0.1 w.0.0 w.1, m.each)

pub signed_sound : (ts : Tokens) (z : ℤ) (rest : Tokens) → signed ts ≡ gives z rest → IsSigned ts z rest
unfolding signed
signed_sound ts z rest e = by (sees s.Minus ts) refl e
  where
    by : (b : Bool) → sees s.Minus ts ≡ b → and_then (number (after s.Minus ts)) (λ n. pure (if b then neg_ℤ (pos n) else pos n)) ≡ gives z rest → IsSigned ts z rest
    by false is e =
        let n = bound (number (after s.Minus ts)) (λ n. pure (pos n)) (z, rest) e in
        let p = pair_is n.2 in
        inl (n.0.0, sym p.0, subst (λ l. IsNumber l n.0.0 rest) (sym (kept s.Minus ts is)) (subst (IsNumber (after s.Minus ts) n.0.0) p.1 (number_is (after s.Minus ts) n.0.1 n.0.0 n.1)))
    by true is e =
        let n = bound (number (after s.Minus ts)) (λ n. pure (neg_ℤ (pos n))) (z, rest) e in
        let p = pair_is n.2 in
        inr (record { a = after s.Minus ts; opens = eaten s.Minus ts refl is; part = (n.0.0, sym p.0, subst (IsNumber (after s.Minus ts) n.0.0) p.1 (number_is (after s.Minus ts) n.0.1 n.0.0 n.1)) })

-- what a step wraps
pub wrapped : {A B : Type 0} (P : Part A) (Q : Part B) (make : A → B) (p : Parser A) (ts : Tokens) (y : B) (rest : Tokens) → ((x : A) (l : Tokens) → p ts ≡ gives x l → P ts x l) → ((x : A) → P ts x rest → Q ts (make x) rest) → and_then (p ts) (λ x. pure (make x)) ≡ gives y rest → Q ts y rest
wrapped P Q make p ts y rest sound turn e =
    let x = bound (p ts) (λ x. pure (make x)) (y, rest) e in
    let same = pair_is x.2 in
    subst (λ z. Q ts z rest) same.0 (turn x.0.0 (subst (P ts x.0.0) same.1 (sound x.0.0 x.0.1 x.1)))

value_at : (x : Symbol) (ts : Tokens) (v : AttrValue) (rest : Tokens) → value_by x ts ≡ gives v rest → (value_by x ts ≡ and_then (signed ts) (λ y. pure (value.Signed y))) ⊎ ((value_by x ts ≡ and_then (string ts) (λ y. pure (value.Str y))) ⊎ (value_by x ts ≡ and_then (path ts) (λ y. pure (value.Path y)))) → IsValue ts v rest
value_at x ts v rest e (inl is) = wrapped IsSigned IsValue value.Signed signed ts v rest (λ z l. signed_sound ts z l) (λ z h. h) (sym is ∙ e)
value_at x ts v rest e (inr (inl is)) = wrapped IsString IsValue value.Str string ts v rest (λ w l. string_is ts l w) (λ w h. h) (sym is ∙ e)
value_at x ts v rest e (inr (inr is)) = wrapped IsPath IsValue value.Path path ts v rest (λ ws l. path_sound ts ws l) (λ ws h. h) (sym is ∙ e)

value_way : (ts : Tokens) (x : Symbol) → (value_by x ts ≡ and_then (signed ts) (λ y. pure (value.Signed y))) ⊎ ((value_by x ts ≡ and_then (string ts) (λ y. pure (value.Str y))) ⊎ (value_by x ts ≡ and_then (path ts) (λ y. pure (value.Path y))))
unfolding value_by
value_way ts = symbol_cases (λ x. (value_by x ts ≡ and_then (signed ts) (λ y. pure (value.Signed y))) ⊎ ((value_by x ts ≡ and_then (string ts) (λ y. pure (value.Str y))) ⊎ (value_by x ts ≡ and_then (path ts) (λ y. pure (value.Path y)))))
    (inr (inr refl)) (inr (inr refl)) (inl refl) (inr (inl refl)) (inr (inr refl)) (inr (inr refl)) (inr (inr refl)) (inr (inr refl)) (inr (inr refl)) (inr (inr refl)) (inr (inr refl)) (inr (inr refl)) (inr (inr refl)) (inr (inr refl)) (inr (inr refl)) (inr (inr refl)) (inr (inr refl)) (inr (inr refl)) (inr (inr refl)) (inr (inr refl)) (inr (inr refl)) (inr (inr refl)) (inr (inr refl)) (inr (inr refl)) (inr (inr refl)) (inr (inr refl)) (inr (inr refl)) (inr (inr refl)) (inr (inr refl)) (inr (inr refl)) (inr (inr refl)) (inr (inr refl)) (inl refl)

pub value_sound : (ts : Tokens) (v : AttrValue) (rest : Tokens) → attr_value ts ≡ gives v rest → IsValue ts v rest
unfolding attr_value
value_sound ts v rest e = value_at (head ts) ts v rest e (value_way ts (head ts))

pub attr_sound : (ts : Tokens) (x : Attr) (rest : Tokens) → attr ts ≡ gives x rest → IsAttr ts x rest
unfolding attr
attr_sound ts x rest e =
    let p = bound (path ts) _ (x, rest) e in
    let q = bound (expect s.Assign p.0.1) _ (x, rest) p.2 in
    let v = bound (attr_value q.0.1) _ (x, rest) q.2 in
    let c = bound (expect s.Semicolon v.0.1) _ (x, rest) v.2 in
    let same = pair_is c.2 in
    subst (λ y. IsAttr ts y rest) same.0 (record {
      a = p.0.1;
      path_is = path_sound ts p.0.0 p.0.1 p.1;
      value_is = record {
        a = q.0.1;
        b = v.0.1;
        opens = expected s.Assign p.0.1 q.0.1 q.0.0 refl q.1;
        part = value_sound q.0.1 v.0.0 v.0.1 v.1;
        closes = subst (Stands s.Semicolon v.0.1) same.1 (expected s.Semicolon v.0.1 c.0.1 c.0.0 refl c.1);
      };
    })

-- ---- items in braces

module _ {A : Type 0} (P : Part A) (p : Parser A) (sound : (ts : Tokens) (x : A) (rest : Tokens) → p ts ≡ gives x rest → P ts x rest) where
  record Listed (found : List A) (ts : Tokens) (all : List A) (rest : Tokens) : Type 0 where
    b : Tokens
    listed : More P found ts all b
    closes : Stands s.CloseBrace b rest

  items_more : (n : ℕ) (found all : List A) (ts rest : Tokens) → items_from p n found ts ≡ gives all rest → Listed found ts all rest
  unfolding items_from
  items_more zero found all ts rest e = absurd (cc)
  items_more (suc n) found all ts rest e = by (sees s.CloseBrace ts) refl e (λ x. items_more n (found ++ x ∷ []) all)
    where
      by : (b : Bool) → sees s.CloseBrace ts ≡ b → (if b then pure found else (λ l. and_then (p l) (λ x. items_from p n (found ++ x ∷ [])))) (after s.CloseBrace ts) ≡ gives all rest → ((x : A) (l rest : Tokens) → items_from p n (found ++ x ∷ []) l ≡ gives all rest → Listed (found ++ x ∷ []) l all rest) → Listed found ts all rest
      by true is e go = record { b = ts; listed = no_more P found ts ts all (pair_is e).0 refl; closes = subst (Stands s.CloseBrace ts) (pair_is e).1 (eaten s.CloseBrace ts refl is) }
      by false is e go =
          let x = bound (p (after s.CloseBrace ts)) (λ x. items_from p n (found ++ x ∷ [])) (all, rest) e in
          let here : P ts x.0.0 x.0.1 = subst (λ l. P l x.0.0 x.0.1) (sym (kept s.CloseBrace ts is)) (sound (after s.CloseBrace ts) x.0.0 x.0.1 x.1) in
          let next = go x.0.0 x.0.1 rest x.2 in
          record { b = next.b; listed = one_more P found x.0.0 ts x.0.1 all next.b here next.listed; closes = next.closes }

  pub braced_sound : (ts : Tokens) (all : List A) (rest : Tokens) → braced p ts ≡ gives all rest → Braced P ts all rest
  braced_sound ts all rest e =
      let o = bound (expect s.OpenBrace ts) _ (all, rest) e in
      let l = items_more (length o.0.1) [] all o.0.1 rest o.2 in
      record { a = o.0.1; b = l.b; opens = expected s.OpenBrace ts o.0.1 o.0.0 refl o.1; part = subst (λ xs. Each P o.0.1 xs l.b) (sym l.listed.is) l.listed.each; closes = l.closes }

pub attrs_sound : (ts : Tokens) (xs : List Attr) (rest : Tokens) → attrs ts ≡ gives xs rest → IsAttrs ts xs rest
unfolding attrs
attrs_sound ts xs rest e = braced_sound IsAttr attr attr_sound ts xs rest e
