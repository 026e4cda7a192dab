-- Digits of a base.
use Rattle.std.proofs.Common.{◌≡◌, ◌≢◌, ℕ, zero, suc, ◌-◌, ◌<◌, ◌≤◌, ◌^◌, Bool, true, false, cond, List, [], ◌∷◌, length, take, get_or, Some, None, Result, Ok, Err, refl, sym, ap, ◌∙◌, subst, arith, nat_lt, MatchResult}
use Rattle.std.specs.Prelude.{◌&&◌}
use Rattle.std.specs.List.{list_all}
use Rattle.std.specs.Char.{digit_value, is_digit}
use Rattle.std.specs.Result.{result_ok}
use Rattle.std.specs.Str.{IsUtf8, IsAscii}
use Rattle.std.specs.Str.Parse.{AllDigits, IsNumeral, digits_value, ParsesUnsigned, without_leading_plus}
use Rattle.std.proofs.lemmas.Str.{IsUtf8-from_ascii}
use Rattle.std.proofs.lemmas.Str.Parse.{without_leading_plus_none}
use Rattle.std.proofs.lemmas.Bool.{ltb-true, ltb-false}
use Rattle.tsdl_lex.specs.Numbers.{digits_of, spelled_by}
use Rattle.tsdl_lex.proofs.Fronts.{run_passes}

all_digits : (base : ℕ) (ds : List ℕ) → list_all (λ c. is_digit c base) ds ≡ true → AllDigits base ds
all_digits base [] h = tt
all_digits base (d ∷ ds) h = by (is_digit d base) refl h (all_digits base ds)
  where
    by : (b : Bool) → is_digit d base ≡ b → (b && list_all (λ c. is_digit c base) ds) ≡ true → (list_all (λ c. is_digit c base) ds ≡ true → AllDigits base ds) → AllDigits base (d ∷ ds)
    by true e h rest = (ltb-true (digit_value d) base e, rest h)
    by false e h rest = absurd (cc)

pub digits_are : (base : ℕ) (text : List ℕ) → AllDigits base (take (digits_of base text) text)
digits_are base text = all_digits base _ (run_passes (λ c. is_digit c base) text)

-- a digit is ASCII
low : (c : ℕ) → digit_value c < 16 → c < 128
low c h = by (nat_lt c 48) refl (nat_lt c 58) refl (nat_lt c 65) refl (nat_lt c 91) refl (nat_lt c 97) refl (nat_lt c 123) refl h
  where
    by : (a : Bool) → nat_lt c 48 ≡ a → (b : Bool) → nat_lt c 58 ≡ b → (d : Bool) → nat_lt c 65 ≡ d → (e : Bool) → nat_lt c 91 ≡ e → (f : Bool) → nat_lt c 97 ≡ f → (g : Bool) → nat_lt c 123 ≡ g → cond a 36 (cond b (c - 48) (cond d 36 (cond e (c - 55) (cond f 36 (cond g (c - 87) 36))))) < 16 → c < 128
    by true p b q d r e s f t g u h = let x = ltb-true c 48 p in omega (arith, x)
    by false p true q d r e s f t g u h = let x = ltb-true c 58 q in omega (arith, x)
    by false p false q true r e s f t g u h = let x = ltb-true c 65 r in omega (arith, x)
    by false p false q false r true s f t g u h = let x = ltb-true c 91 s in omega (arith, x)
    by false p false q false r false s true t g u h = let x = ltb-true c 97 t in omega (arith, x)
    by false p false q false r false s false t true u h = let x = ltb-true c 123 u in omega (arith, x)
    by false p false q false r false s false t false u h = absurd (omega arith)

ascii : (base : ℕ) → base ≤ 16 → (ds : List ℕ) → AllDigits base ds → IsAscii ds
ascii base small [] h i = omega arith
ascii base small (d ∷ ds) h zero = low d (omega (arith, h.0))
ascii base small (d ∷ ds) h (suc i) = ascii base small ds h.1 i

pub digits_utf8 : (base : ℕ) → base ≤ 16 → (ds : List ℕ) → AllDigits base ds → IsUtf8 ds
digits_utf8 base small ds h = IsUtf8-from_ascii ds (ascii base small ds h)

no_plus : (base : ℕ) → base ≤ 16 → (ds : List ℕ) → AllDigits base ds → get_or ds 0 0 ≢ 43
no_plus base small [] h e = omega (arith, e)
no_plus base small (d ∷ ds) h e = let value : digit_value d ≡ 36 = ap digit_value e in omega (arith, value, h.0)

-- what is read of digits as a number of 64 bits
pub spelled : (base : ℕ) → base ≤ 16 → (ds bs : List ℕ) → AllDigits base ds → ds ≡ bs → {E : Type 0} (r : Result ℕ E) → ParsesUnsigned 64 base bs r → result_ok r ≡ spelled_by base ds
spelled base small ds bs h same {E} r parsed = by r (subst (λ l. ParsesUnsigned {E = E} 64 base l r) (sym same) parsed)
  where
    plain : without_leading_plus ds ≡ ds
    plain = without_leading_plus_none ds (no_plus base small ds h)

    tests : (n : ℕ) → (a : Bool) → nat_lt 0 (length ds) ≡ a → (b : Bool) → nat_lt n (2 ^ 64) ≡ b → 0 < length ds → n < 2 ^ 64 → Some n ≡ cond (a && b) (Some n) None
    tests n true p true q some fits = refl
    tests n true p false q some fits = absurd (omega (arith, ltb-false n (2 ^ 64) q, fits))
    tests n false p b q some fits = absurd (omega (arith, ltb-false 0 (length ds) p, some))

    none : (n : ℕ) → (a : Bool) → nat_lt 0 (length ds) ≡ a → (b : Bool) → nat_lt n (2 ^ 64) ≡ b → ((0 < length ds) × (n < 2 ^ 64) → ⊥) → None ≡ cond (a && b) (Some n) None
    none n true p true q never = absurd (never (ltb-true 0 (length ds) p, ltb-true n (2 ^ 64) q))
    none n true p false q never = refl
    none n false p b q never = refl

    by : (r : Result ℕ E) → ParsesUnsigned {E = E} 64 base ds r → result_ok r ≡ spelled_by base ds
    by (Ok n) g =
        let told : (IsNumeral base ds × (digits_value base ds < 2 ^ 64)) × (n ≡ digits_value base ds) = subst (λ l. (IsNumeral base l × (digits_value base l < 2 ^ 64)) × (n ≡ digits_value base l)) plain g in
        ap (λ m. Some m) told.1 ∙ tests (digits_value base ds) _ refl _ refl told.0.0.0 told.0.1
    by (Err e) g =
        let told : ¬ (IsNumeral base ds × (digits_value base ds < 2 ^ 64)) = subst (λ l. ¬ (IsNumeral base l × (digits_value base l < 2 ^ 64))) plain g in
        none (digits_value base ds) _ refl _ refl (λ g. told ((g.0, h), g.1))

-- `from_utf8`, when it refuses
pub refused : {A X : Type 0} (P : A → Type 0) (N : Type 0) (Q : X → Type 0) (r : Result A X) → MatchResult r P (λ e. N × Q e) → None ≡ result_ok r → N
refused P N Q (Ok x) h e = absurd (cc)
refused P N Q (Err x) h e = h.0

-- and when it gives a text
pub given : {A X : Type 0} (P : A → Type 0) (Q : X → Type 0) (r : Result A X) (x : A) → MatchResult r P Q → Some x ≡ result_ok r → P x
given P Q (Ok y) x h e = let same : y ≡ x = cc in subst P same h
given P Q (Err y) x h e = absurd (cc)
