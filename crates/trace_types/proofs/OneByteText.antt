-- Bytes have one spelling each: two lists of bytes that are written alike are the same.
use Rattle.std.proofs.Common.{◌≡◌, ◌≢◌, ℕ, ◌/◌, ◌%◌, ◌<◌, Bool, true, false, if◌then◌else◌, List, [], ◌∷◌, ◌++◌, refl, sym, ap, ap₂, ◌∙◌, arith}
use Rattle.std.specs.Prelude.{flat_map}
use Rattle.std.specs.List.{AllByRecursion}
use Rattle.trace_types.specs.ByteTexts.{byte_text, spelled, is_plain, hex_digit}

same_digit : (m n : ℕ) → m < 16 → n < 16 → hex_digit m ≡ hex_digit n → m ≡ n
same_digit m n h g e = grind arith

not_percent : (b : ℕ) → is_plain b ≡ true → b ≢ 37
not_percent b h e = grind arith

-- what is spelled of a byte, by whether it stands for itself
data Spelling (b : ℕ) : Type 0 where
  Plain : is_plain b ≡ true → spelled b ≡ b ∷ [] → Spelling b
  Coded : spelled b ≡ 37 ∷ hex_digit (b / 16) ∷ hex_digit (b % 16) ∷ [] → Spelling b

spelling_of : (b : ℕ) → Spelling b
spelling_of b = by (is_plain b) refl
  where
    by : (p : Bool) → is_plain b ≡ p → Spelling b
    by true h = Plain h (ap (λ p. if p then b ∷ [] else 37 ∷ hex_digit (b / 16) ∷ hex_digit (b % 16) ∷ []) h)
    by false h = Coded (ap (λ p. if p then b ∷ [] else 37 ∷ hex_digit (b / 16) ∷ hex_digit (b % 16) ∷ []) h)

first_byte : (b c : ℕ) (xs ys : List ℕ) → b < 256 → c < 256 → spelled b ++ xs ≡ spelled c ++ ys → (b ≡ c) × (xs ≡ ys)
first_byte b c xs ys h g e = by (spelling_of b) (spelling_of c)
  where
    by : Spelling b → Spelling c → (b ≡ c) × (xs ≡ ys)
    by (Plain p s) (Plain q t) = let all : b ∷ xs ≡ c ∷ ys = ap (λ l. l ++ xs) (sym s) ∙ (e ∙ ap (λ l. l ++ ys) t) in (cc, cc)
    by (Plain p s) (Coded t) =
        let all : b ∷ xs ≡ 37 ∷ hex_digit (c / 16) ∷ hex_digit (c % 16) ∷ ys = ap (λ l. l ++ xs) (sym s) ∙ (e ∙ ap (λ l. l ++ ys) t) in
        let is : b ≡ 37 = cc in absurd (not_percent b p is)
    by (Coded s) (Plain q t) =
        let all : 37 ∷ hex_digit (b / 16) ∷ hex_digit (b % 16) ∷ xs ≡ c ∷ ys = ap (λ l. l ++ xs) (sym s) ∙ (e ∙ ap (λ l. l ++ ys) t) in
        let is : c ≡ 37 = cc in absurd (not_percent c q is)
    by (Coded s) (Coded t) =
        let all : 37 ∷ hex_digit (b / 16) ∷ hex_digit (b % 16) ∷ xs ≡ 37 ∷ hex_digit (c / 16) ∷ hex_digit (c % 16) ∷ ys = ap (λ l. l ++ xs) (sym s) ∙ (e ∙ ap (λ l. l ++ ys) t) in
        let high : b / 16 ≡ c / 16 = same_digit (b / 16) (c / 16) (omega (arith, h)) (omega (arith, g)) (cc) in
        let low : b % 16 ≡ c % 16 = same_digit (b % 16) (c % 16) (omega arith) (omega arith) (cc) in
        (omega (arith, high, low), cc)

abbrev AreBytes : List ℕ → Type 0
AreBytes = AllByRecursion (λ b. b < 256)

no_bytes : (b : ℕ) (xs : List ℕ) → spelled b ++ xs ≢ []
no_bytes b xs e = by (spelling_of b)
  where
    by : Spelling b → ⊥
    by (Plain p s) = let all : b ∷ xs ≡ [] = ap (λ l. l ++ xs) (sym s) ∙ e in absurd (cc)
    by (Coded s) = let all : 37 ∷ hex_digit (b / 16) ∷ hex_digit (b % 16) ∷ xs ≡ [] = ap (λ l. l ++ xs) (sym s) ∙ e in absurd (cc)

same_bytes : (xs ys : List ℕ) → AreBytes xs → AreBytes ys → flat_map spelled xs ≡ flat_map spelled ys → xs ≡ ys
same_bytes [] [] h g e = refl
same_bytes [] (y ∷ ys) h g e = absurd (no_bytes y (flat_map spelled ys) (sym e))
same_bytes (x ∷ xs) [] h g e = absurd (no_bytes x (flat_map spelled xs) e)
same_bytes (x ∷ xs) (y ∷ ys) h g e =
    let first = first_byte x y (flat_map spelled xs) (flat_map spelled ys) h.0 g.0 e in
    ap₂ (λ b bs. b ∷ bs) first.0 (same_bytes xs ys h.1 g.1 first.1)

no_percent : (b : ℕ) (xs : List ℕ) → spelled b ++ xs ≢ 37 ∷ []
no_percent b xs e = by (spelling_of b)
  where
    by : Spelling b → ⊥
    by (Plain p s) =
        let all : b ∷ xs ≡ 37 ∷ [] = ap (λ l. l ++ xs) (sym s) ∙ e in
        let is : b ≡ 37 = cc in not_percent b p is
    by (Coded s) =
        let all : 37 ∷ hex_digit (b / 16) ∷ hex_digit (b % 16) ∷ xs ≡ 37 ∷ [] = ap (λ l. l ++ xs) (sym s) ∙ e in
        absurd (cc)

pub same_text : (xs ys : List ℕ) → AreBytes xs → AreBytes ys → byte_text xs ≡ byte_text ys → xs ≡ ys
same_text [] [] h g e = refl
same_text [] (y ∷ ys) h g e = absurd (no_percent y (flat_map spelled ys) (sym e))
same_text (x ∷ xs) [] h g e = absurd (no_percent x (flat_map spelled xs) e)
same_text (x ∷ xs) (y ∷ ys) h g e = same_bytes (x ∷ xs) (y ∷ ys) h g e
