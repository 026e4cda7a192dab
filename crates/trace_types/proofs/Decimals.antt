-- Decimal texts of numbers as wide as 128 bits.
use Rattle.std.proofs.Common.{◌≡◌, ◌≢◌, ℕ, ℤ, pos, negsuc, zero, suc, ◌+◌, ◌*◌, ◌/◌, ◌%◌, ◌<◌, ◌≤◌, ◌^◌, List, [], ◌∷◌, ◌++◌, length, get_or, refl, sym, ap, ◌∙◌, subst, append_assoc, append-nil, arith, rules, Result, Ok, Err, None, Some, MatchResult, lit≤, lit<, Bool, true, false, IsTrue, ◌↔◌, neg_ℤ, FitsSigned, le_of_lt}
use Rattle.std.proofs.Math.Nat.{lt_of_lt_of_le, lt_of_le_of_lt}
use Rattle.std.specs.List.{AllByRecursion}
use Rattle.std.specs.Str.{IsUtf8}
use Rattle.std.specs.Result.{result_ok}
use Rattle.std.specs.Int.{w64}
use Rattle.std.proofs.lemmas.Int.{ints}
use lib.Signed.{mag}
use mathlib.Core.Logic.{dite}
use native.Mathlib.Decide.{ℕ_discrete}
use Rattle.std.specs.Fmt.{decimal, signed_decimal}
use Rattle.std.specs.Char.{digit_value}
use Rattle.std.specs.Str.Parse.{AllDigits, digits_value, digits_value_after, ParsesUnsigned, ParsesSigned, signed_digits_value}
use Rattle.trace_types.specs.Numbers.{BeginsPlainly, BeginsPlainlySigned}
use Rattle.std.proofs.lemmas.Str.{digit_value_digit, IsUtf8-from_ascii}
use Rattle.std.proofs.lemmas.Fmt.{decimal_digit, decimal_step_wide, decimal_by_steps_wide, decimal_is_IsNumeral_wide, parse-decimal_wide, IsAscii-decimal_wide, parse-signed_decimal, IsAscii-signed}
use Rattle.std.proofs.lemmas.Str.Parse.{digit_from_value, parse_plain, parse_signed_plain, parse_signed_minus, numerals_by_value, tells_digits}

pub wide : (n : ℕ) → n < 2 ^ 128 → n < 10 ^ 64
wide n h = lt_of_lt_of_le h (lit≤ tt)

le_value_after : (n : ℕ) (ds : List ℕ) → n ≤ digits_value_after 10 n ds
le_value_after n [] = omega arith
le_value_after n (c ∷ cs) = omega (arith, le_value_after (n * 10 + digit_value c) cs)

-- digits after a number that isn't 0 are its last digits
decimal_after : (n : ℕ) (ds : List ℕ) → 0 < n → AllDigits 10 ds → digits_value_after 10 n ds < 10 ^ 64 → decimal (digits_value_after 10 n ds) ≡ decimal n ++ ds
decimal_after n [] some d small = sym (append-nil (decimal n))
decimal_after n (c ∷ cs) some d small =
    let m : ℕ = n * 10 + digit_value c in
    let k = digit_value_digit c (digit_from_value c d.0) in
    let front : m / 10 ≡ n = omega (arith, d.0) in
    let end : 48 + m % 10 ≡ c = omega (arith, d.0) in
    let below : m < 10 ^ 64 = lt_of_le m _ _ (le_value_after m cs) small in
    decimal_after m cs (omega arith) d.1 small
    ∙ ap (λ x. x ++ cs) (decimal_step_wide m (omega arith) below ∙ (λ i. decimal (front i) ++ (end i ∷ [])))
    ∙ append_assoc (decimal n) (c ∷ []) cs
  where
    lt_of_le : (a b c : ℕ) → a ≤ b → b < c → a < c
    lt_of_le a b c h g = omega arith

-- digits that begin plainly are what is written of their value
decimal-digits : (ds : List ℕ) → AllDigits 10 ds → 0 < length ds → (get_or ds 0 0 ≡ 48 → length ds ≡ 1) → digits_value 10 ds < 10 ^ 64 → decimal (digits_value 10 ds) ≡ ds
decimal-digits [] d some lead small = absurd (omega arith)
decimal-digits (c ∷ []) d some lead small =
    let k = digit_value_digit c (digit_from_value c d.0) in
    decimal_digit (0 * 10 + digit_value c) (omega (arith, d.0)) ∙ ap (λ x. x ∷ []) (omega arith)
decimal-digits (c ∷ e ∷ cs) d some lead small =
    let k = digit_value_digit c (digit_from_value c d.0) in
    let no : c ≡ 48 → ⊥ = λ z. omega (arith, lead z) in
    let is : 48 + (0 * 10 + digit_value c) ≡ c = omega arith in
    decimal_after (0 * 10 + digit_value c) (e ∷ cs) (omega arith) d.1 small
    ∙ ap (λ x. x ++ (e ∷ cs)) (decimal_digit (0 * 10 + digit_value c) (omega (arith, d.0)) ∙ ap (λ x. x ∷ []) is)

-- what is written of a number begins plainly
First : ℕ → List ℕ → Type 0
First n ds = (0 < length ds) × (47 < get_or ds 0 0) × (get_or ds 0 0 ≡ 48 → (n ≡ 0) × (length ds ≡ 1))

begins_by : (n : ℕ) → n < 10 ^ 64 → First n (decimal n)
unfolding First
begins_by n h = decimal_by_steps_wide First one more n h
  where
    one : (n : ℕ) → n < 10 → First n ((48 + n) ∷ [])
    one n h = (omega arith, omega arith, λ e. (omega arith, refl))

    more : (n : ℕ) (ds : List ℕ) → 10 ≤ n → First (n / 10) ds → First n (ds ++ ((48 + n % 10) ∷ []))
    more n [] h f = absurd (omega (arith, f.0))
    more n (d ∷ ds) h f = (omega arith, f.1, λ e. let z = f.2 e in absurd (omega (arith, z.0)))

begins : (n : ℕ) → n < 10 ^ 64 → BeginsPlainly (decimal n)
unfolding First
begins n h = let f = begins_by n h in (λ e. omega (arith, f.1), λ e. (f.2 e).1)

digits_first : (n : ℕ) → n < 10 ^ 64 → 47 < get_or (decimal n) 0 0
unfolding First
digits_first n h = (begins_by n h).1

first_above : (n : ℕ) → n < 10 ^ 64 → 0 < n → 48 ≢ get_or (decimal n) 0 0
unfolding First
first_above n h some e = omega (arith, ((begins_by n h).2 (sym e)).0)

-- what `parse` reads of a text that begins plainly, is what is written so
pub read_is : (t bs : List ℕ) (n : ℕ) {E : Type 0} (r : Result ℕ E) → ParsesUnsigned 128 10 t r → Some n ≡ result_ok r → t ≡ bs → BeginsPlainly bs → bs ≡ decimal n
read_is t bs n {E} (Ok m) h e is plain =
    let k = parse_plain (numerals_by_value _ tells_digits) {E = E} 128 bs (Ok m) (subst (λ (s : List ℕ). ParsesUnsigned {E = E} 128 10 s (Ok m)) is h) plain.0 in
    let same : n ≡ digits_value 10 bs = cc (k.1) in
    sym (decimal-digits bs k.0.0 k.0.1 plain.1 (wide _ k.0.2)) ∙ ap decimal (sym same)
read_is t bs n (Err x) h e is plain = absurd (cc)

-- what `parse` does not read is no number of 128 bits
pub not_read : (bs : List ℕ) {E : Type 0} (r : Result ℕ E) → ParsesUnsigned 128 10 bs r → None ≡ result_ok r → (n : ℕ) → n < 2 ^ 128 → bs ≢ decimal n
not_read bs (Ok m) h none n small e = absurd (cc)
not_read bs (Err x) h none n small e = let k = parse-decimal_wide 128 n bs (Err x) small (wide n small) e h in absurd (cc)

not_both : (b : Bool) → b ≡ false → IsTrue b → ⊥
not_both true f t = absurd (cc)
not_both false f t = search rules

-- what does not begin plainly is no number
pub not_plain : (bs : List ℕ) (b : Bool) → (IsTrue b ↔ BeginsPlainly bs) → b ≡ false → (n : ℕ) → n < 2 ^ 128 → bs ≢ decimal n
not_plain bs b h f n small e = not_both b f (h.1 (subst BeginsPlainly (sym e) (begins n (wide n small))))

-- what is no text is no number
pub not_utf8 : (bs : List ℕ) → ¬ (IsUtf8 bs) → (n : ℕ) → n < 2 ^ 128 → bs ≢ decimal n
not_utf8 bs h n small e = h (subst IsUtf8 (sym e) (IsUtf8-from_ascii (decimal n) (IsAscii-decimal_wide n (wide n small))))

small : (n : ℕ) → n ≤ 2 ^ 63 → n < 10 ^ 64
small n h = lt_of_le_of_lt h (lit< tt)

fits_mag : (z : ℤ) → FitsSigned w64 z → mag z < 2 ^ 63
fits_mag (pos n) h = omega (arith, ints)
fits_mag (negsuc n) h = omega (arith, ints)

begins_signed : (z : ℤ) → mag z < 2 ^ 63 → BeginsPlainlySigned (signed_decimal z)
begins_signed (pos n) h = let b = begins n (small n (le_of_lt h)) in let g = digits_first n (small n (le_of_lt h)) in (λ e. absurd (omega (arith, g)), λ _. b)
begins_signed (negsuc n) h = let b = begins (suc n) (small (suc n) (omega arith)) in let g = first_above (suc n) (small (suc n) (omega arith)) (omega arith) in (λ _. (b.0, λ e. omega (arith, g)), λ no. absurd (no refl))

-- the same of signed numbers
pub read_signed_is : (t bs : List ℕ) (z : ℤ) {E : Type 0} (r : Result ℤ E) → ParsesSigned w64 10 t r → Some z ≡ result_ok r → t ≡ bs → BeginsPlainlySigned bs → bs ≡ signed_decimal z
read_signed_is t bs z {E} r h e is plain = by_sign bs z r (subst (λ (s : List ℕ). ParsesSigned {E = E} w64 10 s r) is h) e plain
  where
    different : (c : ℕ) → (c ≡ 48 → ⊥) → c ≢ 48
    different c h = h

    below_zero : (ds : List ℕ) (z : ℤ) (n : ℕ) → n ≡ digits_value 10 ds → z ≡ neg_ℤ (pos n) → AllDigits 10 ds → 0 < length ds → n ≤ 2 ^ 63 → get_or ds 0 0 ≢ 48 → 45 ∷ ds ≡ signed_decimal z
    below_zero [] z n is e d some low first = absurd (omega arith)
    below_zero (c ∷ cs) z zero is e d some low first = absurd (omega (arith, digit_value_digit c (digit_from_value c d.0), le_value_after (0 * 10 + digit_value c) cs, different c first))
    below_zero (c ∷ cs) z (suc n) is e d some low first = rw e (ap (λ l. 45 ∷ l) (sym (decimal-digits (c ∷ cs) d some (λ f. absurd (first f)) (small _ (subst (λ m. m ≤ 2 ^ 63) is low))) ∙ ap decimal (sym is)))

    by_sign : (bs : List ℕ) (z : ℤ) {E : Type 0} (r : Result ℤ E) → ParsesSigned w64 10 bs r → Some z ≡ result_ok r → BeginsPlainlySigned bs → bs ≡ signed_decimal z
    by_sign bs z {E} (Err x) h e plain = absurd (cc)
    by_sign bs z {E} (Ok y) h e plain = dite (ℕ_discrete (get_or bs 0 0) 45)
        (λ minus. with_minus bs z y h (cc) minus (plain.0 minus))
        (λ none. let p = plain.1 none in
        let k = parse_signed_plain (numerals_by_value _ tells_digits) {E = E} w64 bs (Ok y) h p.0 none in
        let same : z ≡ pos (digits_value 10 bs) = cc (k.1) in
        rw same (sym (decimal-digits bs k.0.0 k.0.1 p.1 (small _ (le_of_lt k.0.2)))))
      where
        with_minus : (bs : List ℕ) (z y : ℤ) → ParsesSigned {E = E} w64 10 bs (Ok y) → z ≡ y → get_or bs 0 0 ≡ 45 → (get_or bs 1 0 ≢ 43) × (get_or bs 1 0 ≢ 48) → bs ≡ signed_decimal z
        with_minus [] z y h is minus p = absurd (omega (arith, minus))
        with_minus (c ∷ cs) z y h is minus p =
            let k = parse_signed_minus (numerals_by_value _ tells_digits) {E = E} w64 (c ∷ cs) (Ok y) h minus in
            ap (λ m. m ∷ cs) minus ∙ below_zero cs z (digits_value 10 cs) refl (is ∙ k.1) k.0.0 k.0.1 k.0.2 p.1

-- what `parse` reads is in range
pub read_fits : (t : List ℕ) (z : ℤ) {E : Type 0} (r : Result ℤ E) → ParsesSigned w64 10 t r → Some z ≡ result_ok r → FitsSigned w64 z
read_fits t z {E} (Ok y) h e = let same : signed_digits_value 10 t ≡ z = cc (h.1) in subst (FitsSigned w64) same h.0.1
read_fits t z {E} (Err x) h e = absurd (cc)

-- what `parse` does not read is no number of 64 bits
pub not_read_signed : (bs : List ℕ) {E : Type 0} (r : Result ℤ E) → ParsesSigned w64 10 bs r → None ≡ result_ok r → (z : ℤ) → FitsSigned w64 z → bs ≢ signed_decimal z
not_read_signed bs (Ok m) h none z fits e = absurd (cc)
not_read_signed bs (Err x) h none z fits e = let k = parse-signed_decimal w64 z bs (Err x) fits (fits_mag z fits) e h in absurd (cc)

pub not_plain_signed : (bs : List ℕ) (b : Bool) → (IsTrue b ↔ BeginsPlainlySigned bs) → b ≡ false → (z : ℤ) → FitsSigned w64 z → bs ≢ signed_decimal z
not_plain_signed bs b h f z fits e = not_both b f (h.1 (subst BeginsPlainlySigned (sym e) (begins_signed z (fits_mag z fits))))

pub not_utf8_signed : (bs : List ℕ) → ¬ (IsUtf8 bs) → (z : ℤ) → FitsSigned w64 z → bs ≢ signed_decimal z
not_utf8_signed bs h z fits e = h (subst IsUtf8 (sym e) (IsUtf8-from_ascii (signed_decimal z) (IsAscii-signed z (fits_mag z fits))))

-- no two numbers are written alike
pub same_number : (m n : ℕ) → m < 2 ^ 128 → n < 2 ^ 128 → decimal m ≡ decimal n → m ≡ n
same_number m n g h e = sym (decimal_is_IsNumeral_wide m (wide m g)).1 ∙ (ap (digits_value 10) e ∙ (decimal_is_IsNumeral_wide n (wide n h)).1)

-- a number below a limit of 64 bits has 128 bits
pub below_wide : (n limit : ℕ) → n < limit → limit < 2 ^ 64 → n < 2 ^ 128
below_wide n limit below least = lt_of_lt_of_le (trans n limit _ below least) (lit≤ tt)
  where
    trans : (a b c : ℕ) → a < b → b < c → a < c
    trans a b c h g = omega arith

-- a word of a number that isn't below the limit is no word of one that is
pub too_large : (word : List ℕ) (m n limit : ℕ) → word ≡ decimal m → m < 2 ^ 128 → limit ≤ m → limit < 2 ^ 64 → n < limit → word ≢ decimal n
too_large word m n limit is m_wide large least below e =
    let same : m ≡ n = same_number m n m_wide (below_wide n limit below least) (sym is ∙ e) in omega (arith, same, large, below)

-- `from_utf8`, when it refuses
pub refused : {A X : Type 0} (P : A → Type 0) (N : Type 0) (Q : X → Type 0) (r : Result A X) → MatchResult r P (λ e. N × Q e) → None ≡ result_ok r → N
refused P N Q (Ok x) h e = absurd (cc)
refused P N Q (Err x) h e = h.0

-- `from_utf8`, when it gives a text
pub given : {A X : Type 0} (P : A → Type 0) (Q : X → Type 0) (r : Result A X) (x : A) → MatchResult r P Q → Some x ≡ result_ok r → P x
given P Q (Ok y) x h e = let same : y ≡ x = cc in subst P same h
given P Q (Err y) x h e = absurd (cc)

-- digits are past the slash
pub decimal_high : (n : ℕ) → n < 2 ^ 128 → AllByRecursion (λ b. 47 < b) (decimal n)
decimal_high n h = high (decimal n) (decimal_is_IsNumeral_wide n (wide n h)).0.1
  where
    high : (ds : List ℕ) → AllDigits 10 ds → AllByRecursion (λ b. 47 < b) ds
    high [] g = tt
    high (d ∷ ds) g = (omega (arith, (digit_from_value d g.0).0), high ds g.1)

-- no two numbers below a limit of 64 bits are written alike
pub same_decimal : (m n limit : ℕ) → m < limit → n < limit → limit < 2 ^ 64 → decimal m ≡ decimal n → m ≡ n
same_decimal m n limit h g least e = same_number m n (below_wide m limit h least) (below_wide n limit g least) e
