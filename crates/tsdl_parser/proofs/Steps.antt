-- The first steps of reading, and what stands at the front of tokens.
use Rattle.std.proofs.Common.{◌≡◌, ◌≢◌, ℕ, Bool, true, false, cond, codes, [], ◌∷◌, drop, Option, Some, None, refl, sym, ap, ◌∙◌, subst, rules}
use Rattle.std.specs.Prelude.{option_map, if◌then◌else◌}
use denote.Enum.Bare.{sameb, true_same, same_true}
use Rattle.tsdl_lex.specs.declared.token.Token.{Token}
use Rattle.tsdl_lex.specs.declared.token.TokenKind.{TokenKind}
use Rattle.tsdl_lex.specs.declared.token.TokenKind.TheVariants as kind
use Rattle.tsdl_parser.specs.declared.symbol.Symbol.{Symbol}
use Rattle.tsdl_parser.specs.declared.symbol.Symbol.TheVariants as s
use Rattle.tsdl_parser.specs.contracts.symbol.Symbol.{the_type}
use Rattle.trace_types.specs.Texts.{is_text}
use Rattle.tsdl_parser.specs.Symbols.{same, head, symbol_of, word_symbol}
use Rattle.tsdl_parser.specs.Parsers.{Parser, Outcome, and_then, sees, after, expect, word_of, number_of, string_of, valued, word, number, string, name, if_seen, ◌<$>◌, pure}
use Rattle.tsdl_parser.specs.Grammar.{Tokens, Text, Stands, IsWord, IsName, IsNumber, IsString}

-- ---- from what stands there to what is read

pub head_is : (symbol : Symbol) (ts rest : Tokens) → Stands symbol ts rest → head ts ≡ symbol
head_is symbol ts rest h = ap head h.front ∙ h.is

pub sees_it : (symbol : Symbol) (ts rest : Tokens) → Stands symbol ts rest → sees symbol ts ≡ true
unfolding sees same
sees_it symbol ts rest h = true_same the_type (head ts) symbol (head_is symbol ts rest h)

pub left_of : (symbol : Symbol) (ts rest : Tokens) → Stands symbol ts rest → drop 1 ts ≡ rest
left_of symbol ts rest h = ap (drop 1) h.front

pub other : (x y : Symbol) → sameb the_type x y ≡ false → (ts : Tokens) → head ts ≡ x → sees y ts ≡ false
unfolding sees same
other x y apart ts e = ap (λ z. sameb the_type z y) e ∙ apart

pub after_it : (symbol : Symbol) (ts rest : Tokens) → Stands symbol ts rest → after symbol ts ≡ rest
unfolding after
after_it symbol ts rest h = ap (λ b. cond b (drop 1 ts) ts) (sees_it symbol ts rest h) ∙ left_of symbol ts rest h

pub after_other : (symbol : Symbol) (ts : Tokens) → sees symbol ts ≡ false → after symbol ts ≡ ts
unfolding after
after_other symbol ts none = ap (λ b. cond b (drop 1 ts) ts) none

pub expect_gives : (symbol : Symbol) (ts rest : Tokens) → Stands symbol ts rest → expect symbol ts ≡ Some (tt, rest)
unfolding expect
expect_gives symbol ts rest h = ap (λ b. cond b (Some (tt {0}, drop 1 ts)) None) (sees_it symbol ts rest h) ∙ ap (λ r. Some (tt {0}, r)) (left_of symbol ts rest h)

valued_gives : {A : Type 0} (of : TokenKind → Option A) (ts rest : Tokens) (t : Token) (a : A) → ts ≡ t ∷ rest → of t.kind ≡ Some a → valued of ts ≡ Some (a, rest)
valued_gives of ts rest t a front is = ap (valued of) front ∙ ap (option_map (λ x. (x, rest))) is

pub word_gives : (ts rest : Tokens) (w : Text) → IsWord ts w rest → word ts ≡ Some (w, rest)
unfolding word
word_gives ts rest w h = valued_gives word_of ts rest h.token w h.front (ap word_of h.is)

pub number_gives : (ts rest : Tokens) (n : ℕ) → IsNumber ts n rest → number ts ≡ Some (n, rest)
unfolding number
number_gives ts rest n h = valued_gives number_of ts rest h.token n h.front (ap number_of h.is)

pub string_gives : (ts rest : Tokens) (text : Text) → IsString ts text rest → string ts ≡ Some (text, rest)
unfolding string
string_gives ts rest text h = valued_gives string_of ts rest h.token text h.front (ap string_of h.is)

pub name_stands : (ts rest : Tokens) (w : Text) → IsName ts w rest → Stands s.Name ts rest
name_stands ts rest w h = record { token = h.word.token; front = h.word.front; is = ap symbol_of h.word.is ∙ h.no_keyword }

pub number_stands : (ts rest : Tokens) (n : ℕ) → IsNumber ts n rest → Stands s.Number ts rest
number_stands ts rest n h = record { token = h.token; front = h.front; is = ap symbol_of h.is }

pub string_stands : (ts rest : Tokens) (text : Text) → IsString ts text rest → Stands s.Str ts rest
string_stands ts rest text h = record { token = h.token; front = h.front; is = ap symbol_of h.is }

pub word_stands : (ts rest : Tokens) (w : Text) → IsWord ts w rest → Stands (word_symbol w) ts rest
word_stands ts rest w h = record { token = h.token; front = h.front; is = ap symbol_of h.is }

pub name_gives : (ts rest : Tokens) (w : Text) → IsName ts w rest → name ts ≡ Some (w, rest)
unfolding name
name_gives ts rest w h = ap (λ b. cond b (word ts) None) (sees_it s.Name ts rest (name_stands ts rest w h)) ∙ word_gives ts rest w h.word

-- ---- from what is read to what stands there

pub sees_stands : (symbol : Symbol) (ts : Tokens) → sees symbol ts ≡ true → s.End ≢ symbol → Stands symbol ts (drop 1 ts)
unfolding sees same
sees_stands symbol [] e some = absurd (some (same_true the_type (search rules) s.End symbol e))
sees_stands symbol (t ∷ ts) e some = record { token = t; front = refl; is = same_true the_type (search rules) (symbol_of t.kind) symbol e }

abbrev pub gives : {A : Type 0} → A → Tokens → Outcome A
gives a ts = Some (a, ts)

pub seen_head : (symbol : Symbol) (ts : Tokens) → head ts ≡ symbol → sees symbol ts ≡ true
unfolding sees same
seen_head symbol ts e = true_same the_type (head ts) symbol e

pub pair_is : {A : Type 0} {x y : A} {a b : Tokens} → gives x a ≡ gives y b → (x ≡ y) × (a ≡ b)
pair_is {A} {x} {y} {a} {b} e = (ap (λ (o : Outcome A). one o) e, ap (λ (o : Outcome A). left o) e)
  where
    one : Outcome A → A
    one (Some p) = p.0
    one None = x

    left : Outcome A → Tokens
    left (Some p) = p.1
    left None = a

pub expect_stands : (symbol : Symbol) (ts rest : Tokens) (u : Unit {0}) → s.End ≢ symbol → expect symbol ts ≡ Some (u, rest) → Stands symbol ts rest
unfolding expect
expect_stands symbol ts rest u some e = by (sees symbol ts) refl e
  where
    by : (b : Bool) → sees symbol ts ≡ b → cond b (gives (tt {0}) (drop 1 ts)) None ≡ gives u rest → Stands symbol ts rest
    by true is e = subst (Stands symbol ts) (pair_is e).1 (sees_stands symbol ts is some)
    by false is e = absurd (cc)

valued_is : {A : Type 0} (of : TokenKind → Option A) (ts rest : Tokens) (a : A) → valued of ts ≡ Some (a, rest) → (t : Token) × (ts ≡ t ∷ rest) × (of t.kind ≡ Some a)
valued_is of [] rest a e = absurd (cc)
valued_is {A = A} of (t ∷ ts) rest a e = by (of t.kind) refl e
  where
    by : (o : Option A) → of t.kind ≡ o → option_map {U = A × Tokens} (λ x. (x, ts)) o ≡ gives a rest → (u : Token) × (t ∷ ts ≡ u ∷ rest) × (of u.kind ≡ Some a)
    by None is e = absurd (cc)
    by (Some x) is e = (t, ap (λ l. t ∷ l) (pair_is e).1, is ∙ ap (λ y. Some y) (pair_is e).0)

word_kind : (k : TokenKind) (w : Text) → word_of k ≡ Some w → k ≡ kind.Word w
word_kind (kind.Word v) w e = let same : v ≡ w = cc in ap kind.Word same
word_kind (kind.Number n) w e = absurd (cc)
word_kind (kind.Str v) w e = absurd (cc)
word_kind (kind.Mark m) w e = absurd (cc)

number_kind : (k : TokenKind) (n : ℕ) → number_of k ≡ Some n → k ≡ kind.Number n
number_kind (kind.Word v) n e = absurd (cc)
number_kind (kind.Number m) n e = let same : m ≡ n = cc in ap kind.Number same
number_kind (kind.Str v) n e = absurd (cc)
number_kind (kind.Mark m) n e = absurd (cc)

string_kind : (k : TokenKind) (w : Text) → string_of k ≡ Some w → k ≡ kind.Str w
string_kind (kind.Word v) w e = absurd (cc)
string_kind (kind.Number n) w e = absurd (cc)
string_kind (kind.Str v) w e = let same : v ≡ w = cc in ap kind.Str same
string_kind (kind.Mark m) w e = absurd (cc)

pub word_is : (ts rest : Tokens) (w : Text) → word ts ≡ Some (w, rest) → IsWord ts w rest
unfolding word
word_is ts rest w e = let h = valued_is word_of ts rest w e in record { token = h.0; front = h.1; is = word_kind h.0.kind w h.2 }

pub number_is : (ts rest : Tokens) (n : ℕ) → number ts ≡ Some (n, rest) → IsNumber ts n rest
unfolding number
number_is ts rest n e = let h = valued_is number_of ts rest n e in record { token = h.0; front = h.1; is = number_kind h.0.kind n h.2 }

pub string_is : (ts rest : Tokens) (text : Text) → string ts ≡ Some (text, rest) → IsString ts text rest
unfolding string
string_is ts rest text e = let h = valued_is string_of ts rest text e in record { token = h.0; front = h.1; is = string_kind h.0.kind text h.2 }

-- a word that comes where a name does is one
pub seen_name : (ts rest : Tokens) (w : Text) → sees s.Name ts ≡ true → word ts ≡ Some (w, rest) → IsName ts w rest
unfolding sees same
seen_name ts rest w seen e =
    let h = word_is ts rest w e in
    let head_name : head ts ≡ s.Name = same_true the_type (search rules) (head ts) s.Name seen in
    record { word = h; no_keyword = sym (ap symbol_of h.is) ∙ sym (ap head h.front) ∙ head_name }

pub name_is : (ts rest : Tokens) (w : Text) → name ts ≡ Some (w, rest) → IsName ts w rest
unfolding name
name_is ts rest w e = by (sees s.Name ts) refl e
  where
    by : (b : Bool) → sees s.Name ts ≡ b → cond b (word ts) None ≡ Some (w, rest) → IsName ts w rest
    by true is e = seen_name ts rest w is e
    by false is e = absurd (cc)

-- what a step that was followed by another read
pub bound : {A B : Type 0} (o : Outcome A) (f : A → Parser B) (y : B × Tokens) → and_then o f ≡ Some y → (p : A × Tokens) × (o ≡ Some p) × (f p.0 p.1 ≡ Some y)
bound None f y e = absurd (cc)
bound (Some p) f y e = (p, refl, e)

-- a word is a keyword or a name
pub word_cases : (P : Symbol → Type 0) → P s.Typealias → P s.Struct → P s.Variant → P s.Enum → P s.Integer → P s.FloatingPoint → P s.String → P s.Trace → P s.Stream → P s.Event → P s.Clock → P s.Env → P s.Callsite → P s.Name → (w : Text) → P (word_symbol w)
unfolding word_symbol
word_cases P a b c d e f g h i j k l m n w = by (is_text w (codes "typealias")) (is_text w (codes "struct")) (is_text w (codes "variant")) (is_text w (codes "enum")) (is_text w (codes "integer")) (is_text w (codes "floating_point")) (is_text w (codes "string")) (is_text w (codes "trace")) (is_text w (codes "stream")) (is_text w (codes "event")) (is_text w (codes "clock")) (is_text w (codes "env")) (is_text w (codes "callsite"))
  where
    by : (a' b' c' d' e' f' g' h' i' j' k' l' m' : Bool) → P (cond a' s.Typealias (cond b' s.Struct (cond c' s.Variant (cond d' s.Enum (cond e' s.Integer (cond f' s.FloatingPoint (cond g' s.String (cond h' s.Trace (cond i' s.Stream (cond j' s.Event (cond k' s.Clock (cond l' s.Env (cond m' s.Callsite s.Name)))))))))))))
    by true b' c' d' e' f' g' h' i' j' k' l' m' = a
    by false true c' d' e' f' g' h' i' j' k' l' m' = b
    by false false true d' e' f' g' h' i' j' k' l' m' = c
    by false false false true e' f' g' h' i' j' k' l' m' = d
    by false false false false true f' g' h' i' j' k' l' m' = e
    by false false false false false true g' h' i' j' k' l' m' = f
    by false false false false false false true h' i' j' k' l' m' = g
    by false false false false false false false true i' j' k' l' m' = h
    by false false false false false false false false true j' k' l' m' = i
    by false false false false false false false false false true k' l' m' = j
    by false false false false false false false false false false true l' m' = k
    by false false false false false false false false false false false true m' = l
    by false false false false false false false false false false false false true = m
    by false false false false false false false false false false false false false = n

-- a word closes no brace
pub word_no_close : (ts rest : Tokens) (w : Text) → IsWord ts w rest → sees s.CloseBrace ts ≡ false
word_no_close ts rest w h = other (word_symbol w) s.CloseBrace (word_cases (λ x. sameb the_type x s.CloseBrace ≡ false) refl refl refl refl refl refl refl refl refl refl refl refl refl refl w) ts (head_is (word_symbol w) ts rest (word_stands ts rest w h))

-- a part that may be there
pub unseen : {A : Type 0} (symbol : Symbol) (p : Parser A) (ts : Tokens) → sees symbol ts ≡ false → if_seen symbol p ts ≡ gives None ts
unseen symbol p ts none = ap (λ b. (if b then (Some <$> p) ts else pure None ts)) none

pub seen : {A : Type 0} (symbol : Symbol) (p : Parser A) (ts rest : Tokens) (x : A) → sees symbol ts ≡ true → p ts ≡ gives x rest → if_seen symbol p ts ≡ gives (Some x) rest
seen symbol p ts rest x is read = ap (λ b. (if b then (Some <$> p) ts else pure None ts)) is ∙ ap (λ o. and_then o (λ y. pure (Some y))) read

-- a symbol is one of these
pub symbol_cases : (P : Symbol → Type 0) → P s.End → P s.Name → P s.Number → P s.Str → P s.Typealias → P s.Struct → P s.Variant → P s.Enum → P s.Integer → P s.FloatingPoint → P s.String → P s.Trace → P s.Stream → P s.Event → P s.Clock → P s.Env → P s.Callsite → P s.OpenBrace → P s.CloseBrace → P s.OpenBracket → P s.CloseBracket → P s.OpenParen → P s.CloseParen → P s.Less → P s.Greater → P s.Semicolon → P s.Colon → P s.Comma → P s.Assign → P s.Declare → P s.Dot → P s.Ellipsis → P s.Minus → (x : Symbol) → P x
symbol_cases P c0 c1 c2 c3 c4 c5 c6 c7 c8 c9 c10 c11 c12 c13 c14 c15 c16 c17 c18 c19 c20 c21 c22 c23 c24 c25 c26 c27 c28 c29 c30 c31 c32 s.End = c0
symbol_cases P c0 c1 c2 c3 c4 c5 c6 c7 c8 c9 c10 c11 c12 c13 c14 c15 c16 c17 c18 c19 c20 c21 c22 c23 c24 c25 c26 c27 c28 c29 c30 c31 c32 s.Name = c1
symbol_cases P c0 c1 c2 c3 c4 c5 c6 c7 c8 c9 c10 c11 c12 c13 c14 c15 c16 c17 c18 c19 c20 c21 c22 c23 c24 c25 c26 c27 c28 c29 c30 c31 c32 s.Number = c2
symbol_cases P c0 c1 c2 c3 c4 c5 c6 c7 c8 c9 c10 c11 c12 c13 c14 c15 c16 c17 c18 c19 c20 c21 c22 c23 c24 c25 c26 c27 c28 c29 c30 c31 c32 s.Str = c3
symbol_cases P c0 c1 c2 c3 c4 c5 c6 c7 c8 c9 c10 c11 c12 c13 c14 c15 c16 c17 c18 c19 c20 c21 c22 c23 c24 c25 c26 c27 c28 c29 c30 c31 c32 s.Typealias = c4
symbol_cases P c0 c1 c2 c3 c4 c5 c6 c7 c8 c9 c10 c11 c12 c13 c14 c15 c16 c17 c18 c19 c20 c21 c22 c23 c24 c25 c26 c27 c28 c29 c30 c31 c32 s.Struct = c5
symbol_cases P c0 c1 c2 c3 c4 c5 c6 c7 c8 c9 c10 c11 c12 c13 c14 c15 c16 c17 c18 c19 c20 c21 c22 c23 c24 c25 c26 c27 c28 c29 c30 c31 c32 s.Variant = c6
symbol_cases P c0 c1 c2 c3 c4 c5 c6 c7 c8 c9 c10 c11 c12 c13 c14 c15 c16 c17 c18 c19 c20 c21 c22 c23 c24 c25 c26 c27 c28 c29 c30 c31 c32 s.Enum = c7
symbol_cases P c0 c1 c2 c3 c4 c5 c6 c7 c8 c9 c10 c11 c12 c13 c14 c15 c16 c17 c18 c19 c20 c21 c22 c23 c24 c25 c26 c27 c28 c29 c30 c31 c32 s.Integer = c8
symbol_cases P c0 c1 c2 c3 c4 c5 c6 c7 c8 c9 c10 c11 c12 c13 c14 c15 c16 c17 c18 c19 c20 c21 c22 c23 c24 c25 c26 c27 c28 c29 c30 c31 c32 s.FloatingPoint = c9
symbol_cases P c0 c1 c2 c3 c4 c5 c6 c7 c8 c9 c10 c11 c12 c13 c14 c15 c16 c17 c18 c19 c20 c21 c22 c23 c24 c25 c26 c27 c28 c29 c30 c31 c32 s.String = c10
symbol_cases P c0 c1 c2 c3 c4 c5 c6 c7 c8 c9 c10 c11 c12 c13 c14 c15 c16 c17 c18 c19 c20 c21 c22 c23 c24 c25 c26 c27 c28 c29 c30 c31 c32 s.Trace = c11
symbol_cases P c0 c1 c2 c3 c4 c5 c6 c7 c8 c9 c10 c11 c12 c13 c14 c15 c16 c17 c18 c19 c20 c21 c22 c23 c24 c25 c26 c27 c28 c29 c30 c31 c32 s.Stream = c12
symbol_cases P c0 c1 c2 c3 c4 c5 c6 c7 c8 c9 c10 c11 c12 c13 c14 c15 c16 c17 c18 c19 c20 c21 c22 c23 c24 c25 c26 c27 c28 c29 c30 c31 c32 s.Event = c13
symbol_cases P c0 c1 c2 c3 c4 c5 c6 c7 c8 c9 c10 c11 c12 c13 c14 c15 c16 c17 c18 c19 c20 c21 c22 c23 c24 c25 c26 c27 c28 c29 c30 c31 c32 s.Clock = c14
symbol_cases P c0 c1 c2 c3 c4 c5 c6 c7 c8 c9 c10 c11 c12 c13 c14 c15 c16 c17 c18 c19 c20 c21 c22 c23 c24 c25 c26 c27 c28 c29 c30 c31 c32 s.Env = c15
symbol_cases P c0 c1 c2 c3 c4 c5 c6 c7 c8 c9 c10 c11 c12 c13 c14 c15 c16 c17 c18 c19 c20 c21 c22 c23 c24 c25 c26 c27 c28 c29 c30 c31 c32 s.Callsite = c16
symbol_cases P c0 c1 c2 c3 c4 c5 c6 c7 c8 c9 c10 c11 c12 c13 c14 c15 c16 c17 c18 c19 c20 c21 c22 c23 c24 c25 c26 c27 c28 c29 c30 c31 c32 s.OpenBrace = c17
symbol_cases P c0 c1 c2 c3 c4 c5 c6 c7 c8 c9 c10 c11 c12 c13 c14 c15 c16 c17 c18 c19 c20 c21 c22 c23 c24 c25 c26 c27 c28 c29 c30 c31 c32 s.CloseBrace = c18
symbol_cases P c0 c1 c2 c3 c4 c5 c6 c7 c8 c9 c10 c11 c12 c13 c14 c15 c16 c17 c18 c19 c20 c21 c22 c23 c24 c25 c26 c27 c28 c29 c30 c31 c32 s.OpenBracket = c19
symbol_cases P c0 c1 c2 c3 c4 c5 c6 c7 c8 c9 c10 c11 c12 c13 c14 c15 c16 c17 c18 c19 c20 c21 c22 c23 c24 c25 c26 c27 c28 c29 c30 c31 c32 s.CloseBracket = c20
symbol_cases P c0 c1 c2 c3 c4 c5 c6 c7 c8 c9 c10 c11 c12 c13 c14 c15 c16 c17 c18 c19 c20 c21 c22 c23 c24 c25 c26 c27 c28 c29 c30 c31 c32 s.OpenParen = c21
symbol_cases P c0 c1 c2 c3 c4 c5 c6 c7 c8 c9 c10 c11 c12 c13 c14 c15 c16 c17 c18 c19 c20 c21 c22 c23 c24 c25 c26 c27 c28 c29 c30 c31 c32 s.CloseParen = c22
symbol_cases P c0 c1 c2 c3 c4 c5 c6 c7 c8 c9 c10 c11 c12 c13 c14 c15 c16 c17 c18 c19 c20 c21 c22 c23 c24 c25 c26 c27 c28 c29 c30 c31 c32 s.Less = c23
symbol_cases P c0 c1 c2 c3 c4 c5 c6 c7 c8 c9 c10 c11 c12 c13 c14 c15 c16 c17 c18 c19 c20 c21 c22 c23 c24 c25 c26 c27 c28 c29 c30 c31 c32 s.Greater = c24
symbol_cases P c0 c1 c2 c3 c4 c5 c6 c7 c8 c9 c10 c11 c12 c13 c14 c15 c16 c17 c18 c19 c20 c21 c22 c23 c24 c25 c26 c27 c28 c29 c30 c31 c32 s.Semicolon = c25
symbol_cases P c0 c1 c2 c3 c4 c5 c6 c7 c8 c9 c10 c11 c12 c13 c14 c15 c16 c17 c18 c19 c20 c21 c22 c23 c24 c25 c26 c27 c28 c29 c30 c31 c32 s.Colon = c26
symbol_cases P c0 c1 c2 c3 c4 c5 c6 c7 c8 c9 c10 c11 c12 c13 c14 c15 c16 c17 c18 c19 c20 c21 c22 c23 c24 c25 c26 c27 c28 c29 c30 c31 c32 s.Comma = c27
symbol_cases P c0 c1 c2 c3 c4 c5 c6 c7 c8 c9 c10 c11 c12 c13 c14 c15 c16 c17 c18 c19 c20 c21 c22 c23 c24 c25 c26 c27 c28 c29 c30 c31 c32 s.Assign = c28
symbol_cases P c0 c1 c2 c3 c4 c5 c6 c7 c8 c9 c10 c11 c12 c13 c14 c15 c16 c17 c18 c19 c20 c21 c22 c23 c24 c25 c26 c27 c28 c29 c30 c31 c32 s.Declare = c29
symbol_cases P c0 c1 c2 c3 c4 c5 c6 c7 c8 c9 c10 c11 c12 c13 c14 c15 c16 c17 c18 c19 c20 c21 c22 c23 c24 c25 c26 c27 c28 c29 c30 c31 c32 s.Dot = c30
symbol_cases P c0 c1 c2 c3 c4 c5 c6 c7 c8 c9 c10 c11 c12 c13 c14 c15 c16 c17 c18 c19 c20 c21 c22 c23 c24 c25 c26 c27 c28 c29 c30 c31 c32 s.Ellipsis = c31
symbol_cases P c0 c1 c2 c3 c4 c5 c6 c7 c8 c9 c10 c11 c12 c13 c14 c15 c16 c17 c18 c19 c20 c21 c22 c23 c24 c25 c26 c27 c28 c29 c30 c31 c32 s.Minus = c32
