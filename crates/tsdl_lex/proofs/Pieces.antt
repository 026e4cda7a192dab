-- Pieces one after the other.
use Rattle.std.proofs.Common.{◌≡◌, ℕ, zero, suc, ◌+◌, ◌-◌, ◌<◌, ◌≤◌, List, [], ◌∷◌, ◌++◌, length, take, drop, Some, refl, sym, ap, ◌∙◌, subst, arith, nat_lt, Bool, true, false}
use Rattle.std.proofs.lemmas.Bool.{ltb-true, ltb-false}
use Rattle.std.proofs.lemmas.List.{drop-drop, length-drop}
use Rattle.tsdl_lex.specs.declared.token.Token.{Token}
use Rattle.tsdl_lex.specs.declared.lexeme.Lexeme.{Lexeme}
use Rattle.tsdl_lex.specs.declared.lexeme.Lexeme.TheVariants as lexeme
use Rattle.tsdl_lex.specs.Lexemes.{lexeme_of, IsFirst, IsNone}
use Rattle.tsdl_lex.specs.Tokens.{Piece, Leads, with_token, tokens_from, IsTokens, IsRefused, AreSlices}

-- where the piece after these begins
abbrev pub behind : ℕ → List Piece → ℕ
behind start [] = start
behind start (p ∷ pieces) = behind (start + p.len) pieces

pub leads_more : (text rest : List ℕ) (pieces : List Piece) (p : Piece) → Leads text pieces rest → IsFirst rest p.len p.lexeme → Leads text (pieces ++ p ∷ []) (drop p.len rest)
leads_more text rest [] p h is = (subst (λ t. IsFirst t p.len p.lexeme) (sym h) is, ap (drop p.len) h)
leads_more text rest (q ∷ pieces) p h is = (h.0, leads_more (drop q.len text) rest pieces p h.1 is)

pub behind_more : (start : ℕ) (pieces : List Piece) (p : Piece) → behind start (pieces ++ p ∷ []) ≡ behind start pieces + p.len
behind_more start [] p = refl
behind_more start (q ∷ pieces) p = behind_more (start + q.len) pieces p

with_more : (l : Lexeme) (start len : ℕ) (xs ys : List Token) → with_token l start len (xs ++ ys) ≡ with_token l start len xs ++ ys
with_more (lexeme.Token kind) start len xs ys = refl
with_more lexeme.Gap start len xs ys = refl

pub tokens_more : (start : ℕ) (pieces : List Piece) (p : Piece) → tokens_from start (pieces ++ p ∷ []) ≡ tokens_from start pieces ++ with_token p.lexeme (behind start pieces) p.len []
tokens_more start [] p = refl
tokens_more start (q ∷ pieces) p = ap (with_token q.lexeme start q.len) (tokens_more (start + q.len) pieces p) ∙ with_more q.lexeme start q.len _ _

-- a lexeme has a byte
pub some_byte : (text : List ℕ) (n : ℕ) (l : Lexeme) → IsFirst text n l → 0 < n
some_byte text zero l is = absurd (let e = is.longest.front in cc)
some_byte text (suc n) l is = omega arith

from_earlier : (text : List ℕ) (a b : ℕ) (tokens : List Token) → a ≤ b → AreSlices text b tokens → AreSlices text a tokens
from_earlier text a b [] less h = omega (arith, less, h)
from_earlier text a b (t ∷ tokens) less h = (omega (arith, less, h.0), h.1, h.2, h.3)

pub slices_of : (text : List ℕ) (start : ℕ) (pieces : List Piece) (rest : List ℕ) → start ≤ length text → Leads (drop start text) pieces rest → AreSlices text start (tokens_from start pieces)
slices_of text start [] rest inside h = inside
slices_of text start (p ∷ pieces) rest inside h = by p.lexeme refl (slices_of text (start + p.len) pieces rest fits (subst (λ t. Leads t pieces rest) (drop-drop p.len start text) h.1))
  where
    fits : start + p.len ≤ length text
    fits = let size = length-drop start text in let within = h.0.longest.within in omega (arith, size, within, inside)

    by : (l : Lexeme) → p.lexeme ≡ l → AreSlices text (start + p.len) (tokens_from (start + p.len) pieces) → AreSlices text start (with_token l start p.len (tokens_from (start + p.len) pieces))
    by lexeme.Gap is more = from_earlier text start (start + p.len) (tokens_from (start + p.len) pieces) (omega arith) more
    by (lexeme.Token kind) is more =
        let some = some_byte (drop start text) p.len p.lexeme h.0 in
        let len : start + p.len - start ≡ p.len = omega arith in
        (omega arith, omega (arith, some), ap (λ n. lexeme_of (take n (drop start text))) len ∙ h.0.longest.front ∙ ap (λ l. Some l) is, more)

-- the longest lexeme is one
same_len : (text : List ℕ) (m n : ℕ) (a b : Lexeme) → IsFirst text m a → IsFirst text n b → m ≡ n
same_len text m n a b p q = by (nat_lt m n) refl (nat_lt n m) refl
  where
    by : (x : Bool) → nat_lt m n ≡ x → (y : Bool) → nat_lt n m ≡ y → m ≡ n
    by true e y f = absurd (let none = p.longest.longest n (ltb-true m n e) q.longest.within in let some = q.longest.front in cc)
    by false e true f = absurd (let none = q.longest.longest m (ltb-true n m f) p.longest.within in let some = p.longest.front in cc)
    by false e false f = omega (arith, ltb-false m n e, ltb-false n m f)

some_is : {A : Type 0} {a b : A} → Some a ≡ Some b → a ≡ b
some_is h = cc

same_piece : (text : List ℕ) (p q : Piece) → IsFirst text p.len p.lexeme → IsFirst text q.len q.lexeme → p ≡ q
same_piece text p q a b =
    let len = same_len text p.len q.len p.lexeme q.lexeme a b in
    let lexeme = some_is (sym a.longest.front ∙ ap (λ n. lexeme_of (take n text)) len ∙ b.longest.front) in
    (λ i. record { len = len i; lexeme = lexeme i })

nothing_first : (n : ℕ) (l : Lexeme) → IsFirst [] n l → ⊥
nothing_first n l is = let within = is.longest.within in let some = some_byte [] n l is in omega (arith, within, some)

one_way : (text : List ℕ) (ps qs : List Piece) → Leads text ps [] → Leads text qs [] → ps ≡ qs
one_way text [] [] a b = refl
one_way text [] (q ∷ qs) a b = absurd (nothing_first q.len q.lexeme (subst (λ t. IsFirst t q.len q.lexeme) a b.0))
one_way text (p ∷ ps) [] a b = absurd (nothing_first p.len p.lexeme (subst (λ t. IsFirst t p.len p.lexeme) b a.0))
one_way text (p ∷ ps) (q ∷ qs) a b =
    let same = same_piece text p q a.0 b.0 in
    (λ i. same i ∷ one_way (drop p.len text) ps qs a.1 (subst (λ r. Leads (drop r.len text) qs []) (sym same) b.1) i)

-- a text has at most one list of tokens
pub one_list : (text : List ℕ) (xs ys : List Token) → IsTokens text xs → IsTokens text ys → xs ≡ ys
one_list text xs ys a b = a.tokens_are ∙ ap (tokens_from 0) (one_way text a.pieces b.pieces a.leads b.leads) ∙ sym b.tokens_are

not_here : (text rest : List ℕ) (ps qs : List Piece) → Leads text ps [] → Leads text qs rest → 0 < length rest → IsNone rest → ⊥
not_here text rest [] [] a b some none = let size : length rest ≡ 0 = ap length (sym b ∙ a) in omega (arith, size, some)
not_here text rest [] (q ∷ qs) a b some none = nothing_first q.len q.lexeme (subst (λ t. IsFirst t q.len q.lexeme) a b.0)
not_here text rest (p ∷ ps) [] a b some none =
    let first : IsFirst rest p.len p.lexeme = subst (λ t. IsFirst t p.len p.lexeme) b a.0 in
    let cut = none p.len p.lexeme first.longest.within first.longest.front in
    let whole = first.whole in
    absurd (cc)
not_here text rest (p ∷ ps) (q ∷ qs) a b some none =
    let same = same_piece text p q a.0 b.0 in
    not_here (drop p.len text) rest ps qs a.1 (subst (λ r. Leads (drop r.len text) qs rest) (sym same) b.1) some none

-- and then it is refused nowhere
pub no_refusal : (text : List ℕ) (xs : List Token) (at : ℕ) → IsTokens text xs → IsRefused text at → ⊥
no_refusal text xs at a b = not_here text b.rest a.pieces b.pieces a.leads b.leads b.some b.none

-- where nothing begins, no piece does
none_begins : (text : List ℕ) (p : Piece) → IsNone text → IsFirst text p.len p.lexeme → ⊥
none_begins text p none first =
    let cut = none p.len p.lexeme first.longest.within first.longest.front in
    let whole = first.whole in
    absurd (cc)

-- two ways to where nothing begins end at one place
one_end : (text r q : List ℕ) (ps qs : List Piece) → Leads text ps r → Leads text qs q → IsNone r → IsNone q → r ≡ q
one_end text r q [] [] a b none other = sym a ∙ b
one_end text r q [] (p ∷ ps) a b none other = absurd (none_begins r p none (subst (λ t. IsFirst t p.len p.lexeme) a b.0))
one_end text r q (p ∷ ps) [] a b none other = absurd (none_begins q p other (subst (λ t. IsFirst t p.len p.lexeme) b a.0))
one_end text r q (p ∷ ps) (o ∷ os) a b none other =
    let same = same_piece text p o a.0 b.0 in
    one_end (drop p.len text) r q ps os a.1 (subst (λ x. Leads (drop x.len text) os q) (sym same) b.1) none other

-- a text is refused at one byte at most
pub one_refusal : (text : List ℕ) (a b : ℕ) → IsRefused text a → IsRefused text b → a ≡ b
one_refusal text a b h g =
    let same : length h.rest ≡ length g.rest = ap length (one_end text h.rest g.rest h.pieces g.pieces h.leads g.leads h.none g.none) in
    omega (arith, same, h.place, g.place)

-- the text up to a place was read, with these tokens
pub record HasRead (text : List ℕ) (start : ℕ) (tokens : List Token) : Type 0 where
  pub inside : start ≤ length text
  pub pieces : List Piece
  pub leads : Leads text pieces (drop start text)
  pub tokens_are : tokens ≡ tokens_from 0 pieces
  pub place : behind 0 pieces ≡ start

pub read_more : (text : List ℕ) (start n : ℕ) (l : Lexeme) (tokens : List Token) → HasRead text start tokens → IsFirst (drop start text) n l → HasRead text (start + n) (tokens ++ with_token l start n [])
read_more text start n l tokens h is =
    let piece : Piece = record { len = n; lexeme = l } in
    record {
      inside = let size = length-drop start text in let within = is.longest.within in omega (arith, size, within, h.inside);
      pieces = h.pieces ++ piece ∷ [];
      leads = subst (Leads text (h.pieces ++ piece ∷ [])) (drop-drop n start text) (leads_more text (drop start text) h.pieces piece h.leads is);
      tokens_are = ap (λ ts. ts ++ with_token l start n []) h.tokens_are ∙ ap (λ k. tokens_from 0 h.pieces ++ with_token l k n []) (sym h.place) ∙ sym (tokens_more 0 h.pieces piece);
      place = behind_more 0 h.pieces piece ∙ ap (λ k. k + n) h.place;
    }
