-- The token at the front.
use Rattle.std.proofs.Common.{◌≡◌, ℕ, false, List, [], ◌∷◌, ◌++◌, drop, Option, Some, None, refl, ap, ◌∙◌}
use Rattle.std.specs.Prelude.{option_map, slice_get, ◌&&◌}
use Rattle.tsdl_lex.specs.declared.token.Token.{Token}
use Rattle.tsdl_lex.specs.declared.token.TokenKind.{TokenKind}
use Rattle.tsdl_parser.specs.declared.symbol.Symbol.TheVariants as s
use Rattle.tsdl_parser.specs.Parsers.{valued, word_of, sees}
use Rattle.tsdl_parser.specs.Reading.{is_align, sees_align, ends, last_of}

-- a token that has a value, and one that has none
pub with_value : {A : Type 0} (of : TokenKind → Option A) (ts : List Token) (k : TokenKind) → option_map (λ t. t.kind) (slice_get ts 0) ≡ Some k → valued of ts ≡ option_map (λ a. (a, drop 1 ts)) (of k)
with_value of [] k is = absurd (cc)
with_value of (t ∷ ts) k is = let same : t.kind ≡ k = cc in ap (λ x. option_map (λ a. (a, ts)) (of x)) same

pub at_end : {A : Type 0} (of : TokenKind → Option A) (ts : List Token) → ts ≡ [] → valued of ts ≡ None
at_end of ts is = ap (valued of) is

pub align_at : (ts : List Token) (t : Token) → slice_get ts 0 ≡ Some t → sees_align ts ≡ (is_align (word_of t.kind) && sees s.OpenParen (drop 1 ts))
align_at [] t is = absurd (cc)
align_at (u ∷ ts) t is = let same : u ≡ t = cc in ap (λ x. is_align (word_of x.kind) && sees s.OpenParen ts) same

pub align_end : (ts : List Token) → slice_get ts 0 ≡ None → sees_align ts ≡ false
align_end [] is = refl
align_end (t ∷ ts) is = absurd (cc)

-- the last of words, after others
pub last_is : (ws front : List (List ℕ)) (last : List ℕ) → ws ≡ front ++ last ∷ [] → (front ≡ [] → ⊥) → last_of ws ≡ Some (front, last)
last_is ws [] last is some = absurd (some refl)
last_is ws (w ∷ front) last is some = ap last_of is ∙ behind w front
  where
    ends_at : (w : List ℕ) (front : List (List ℕ)) → ends w (front ++ last ∷ []) ≡ (w ∷ front, last)
    ends_at w [] = refl
    ends_at w (v ∷ front) = ap (λ p. (w ∷ p.0, p.1)) (ends_at v front)

    behind : (w : List ℕ) (front : List (List ℕ)) → last_of (w ∷ front ++ last ∷ []) ≡ Some (w ∷ front, last)
    behind w [] = refl
    behind w (v ∷ front) = ap (λ p. Some p) (ends_at w (v ∷ front))
