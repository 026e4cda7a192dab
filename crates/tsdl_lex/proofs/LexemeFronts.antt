-- The lexeme at the front of a text, by its first byte.
use Rattle.std.proofs.Common.{◌≡◌, ◌≢◌, ℕ, zero, suc, ◌+◌, ◌-◌, ◌<◌, ◌≤◌, Bool, true, false, not, cond, List, [], ◌∷◌, length, take, drop, get_or, Option, Some, None, refl, sym, ap, ◌∙◌, subst, arith, nat_lt, nat_le}
use Rattle.std.specs.Prelude.{◌==◌, ◌&&◌, ◌||◌, option_map}
use Rattle.std.specs.Int.{is_in_range}
use Rattle.std.specs.Char.{is_ascii_digit, is_digit, digit_value}
use Rattle.std.specs.List.{list_all, position_or_len}
use Rattle.std.proofs.lemmas.Bool.{eqb-true, ltb-true, ltb-false, leb-true, le-leb, and_parts, and_from}
use Rattle.std.proofs.lemmas.List.{take-append-drop}
use Rattle.std.proofs.lemmas.List.Folds.{list_all-append}
use Rattle.tsdl_lex.specs.declared.token.TokenKind.TheVariants.{Word, Number, Str, Mark}
use Rattle.tsdl_lex.specs.declared.token.MarkKind.{MarkKind}
use Rattle.tsdl_lex.specs.declared.lexeme.Lexeme.{Lexeme}
use Rattle.tsdl_lex.specs.declared.lexeme.Lexeme.TheVariants.{Token, Gap}
use Rattle.tsdl_lex.specs.Bytes.{is_letter, is_word_byte, is_other, is_space}
use Rattle.tsdl_lex.specs.Longest.{IsLongest, IsNowhere}
use Rattle.tsdl_lex.specs.Numbers.{digits_of, is_suffix_letter, is_suffix, spelled_by, in_base, number_of}
use Rattle.tsdl_lex.specs.Strings.{string_of}
use Rattle.tsdl_lex.specs.Marks.{mark_of, comment_of}
use Rattle.tsdl_lex.specs.Lexemes.{is_empty, lexeme_of, is_cut, IsFirst, IsNone}
use Rattle.tsdl_lex.proofs.Fronts.{one_plus, by_first, len_within, run_passes, run_ends, run_goes_on, run_stops}

-- a letter is no digit
letter_no_digit : (c : ℕ) → is_letter c ≡ true → is_ascii_digit c ≡ false
letter_no_digit c letter = by (is_ascii_digit c) refl
  where
    none : c ≤ 57 → (a : Bool) → nat_le 65 c ≡ a → (b : Bool) → nat_le 97 c ≡ b → (e : Bool) → (c == 95) ≡ e → (((a && nat_le c 90) || (b && nat_le c 122)) || e) ≡ true → ⊥
    none high true p b q e r h = let low = leb-true 65 c p in omega (arith, low, high)
    none high false p true q e r h = let low = leb-true 97 c q in omega (arith, low, high)
    none high false p false q true r h = let same = eqb-true c 95 r in omega (arith, same, high)
    none high false p false q false r h = absurd (cc)

    by : (d : Bool) → is_ascii_digit c ≡ d → d ≡ false
    by false e = refl
    by true e = absurd (let parts = and_parts (nat_le 48 c) (nat_le c 57) e in none (leb-true c 57 parts.1) (nat_le 65 c) refl (nat_le 97 c) refl (c == 95) refl letter)

-- a number's bytes are those of a word
digit_word : (base c : ℕ) → base ≤ 16 → is_digit c base ≡ true → is_word_byte c ≡ true
digit_word base c small h = by (nat_lt c 48) refl (nat_lt c 58) refl (nat_lt c 65) refl (nat_lt c 91) refl (nat_lt c 97) refl (nat_lt c 123) refl (ltb-true (digit_value c) base h)
  where
    within : (lo hi : ℕ) → lo ≤ c → c ≤ hi → is_in_range lo hi c ≡ true
    within lo hi low high = and_from (nat_le lo c) (nat_le c hi) (le-leb lo c low) (le-leb c hi high)

    upper : is_in_range 65 90 c ≡ true → is_word_byte c ≡ true
    upper e = ap (λ b. ((b || is_in_range 97 122 c) || (c == 95)) || is_in_range 48 57 c) e

    or_true : (a : Bool) → (a || true) ≡ true
    or_true true = refl
    or_true false = refl

    lower : is_in_range 97 122 c ≡ true → is_word_byte c ≡ true
    lower e = ap (λ b. ((is_in_range 65 90 c || b) || (c == 95)) || is_in_range 48 57 c) e ∙ ap (λ b. (b || (c == 95)) || is_in_range 48 57 c) (or_true (is_in_range 65 90 c))

    decimal : is_in_range 48 57 c ≡ true → is_word_byte c ≡ true
    decimal e = ap (λ b. is_letter c || b) e ∙ or_true (is_letter c)

    by : (a : Bool) → nat_lt c 48 ≡ a → (b : Bool) → nat_lt c 58 ≡ b → (d : Bool) → nat_lt c 65 ≡ d → (e : Bool) → nat_lt c 91 ≡ e → (f : Bool) → nat_lt c 97 ≡ f → (g : Bool) → nat_lt c 123 ≡ g → cond a 36 (cond b (c - 48) (cond d 36 (cond e (c - 55) (cond f 36 (cond g (c - 87) 36))))) < base → is_word_byte c ≡ true
    by true p b q d r e s f t g u h = absurd (omega (arith, small, h))
    by false p true q d r e s f t g u h = decimal (within 48 57 (ltb-false c 48 p) (let x = ltb-true c 58 q in omega (arith, x)))
    by false p false q true r e s f t g u h = absurd (omega (arith, small, h))
    by false p false q false r true s f t g u h = upper (within 65 90 (ltb-false c 65 r) (let x = ltb-true c 91 s in omega (arith, x)))
    by false p false q false r false s true t g u h = absurd (omega (arith, small, h))
    by false p false q false r false s false t true u h = lower (within 97 122 (ltb-false c 97 t) (let x = ltb-true c 123 u in omega (arith, x)))
    by false p false q false r false s false t false u h = absurd (omega (arith, small, h))

suffix_word : (c : ℕ) → is_suffix_letter c ≡ true → is_word_byte c ≡ true
suffix_word c h = by (c == 117) refl (c == 85) refl (c == 108) refl (c == 76) refl h
  where
    at : (n : ℕ) → (c == n) ≡ true → is_word_byte n ≡ true → is_word_byte c ≡ true
    at n e is = subst (λ x. is_word_byte x ≡ true) (sym (eqb-true c n e)) is

    by : (a : Bool) → (c == 117) ≡ a → (b : Bool) → (c == 85) ≡ b → (d : Bool) → (c == 108) ≡ d → (e : Bool) → (c == 76) ≡ e → (a || (b || (d || e))) ≡ true → is_word_byte c ≡ true
    by true p b q d r e s h = at 117 p refl
    by false p true q d r e s h = at 85 q refl
    by false p false q true r e s h = at 108 r refl
    by false p false q false r true s h = at 76 s refl
    by false p false q false r false s h = absurd (cc)

all_more : (p q : ℕ → Bool) → ((c : ℕ) → p c ≡ true → q c ≡ true) → (xs : List ℕ) → list_all p xs ≡ true → list_all q xs ≡ true
all_more p q more [] h = refl
all_more p q more (x ∷ xs) h = let parts = and_parts (p x) (list_all p xs) h in and_from (q x) (list_all q xs) (more x parts.0) (all_more p q more xs parts.1)

base_words : (base : ℕ) → base ≤ 16 → (text : List ℕ) (v : ℕ) → in_base base text ≡ Some v → list_all is_word_byte text ≡ true
base_words base small text v is = by (is_suffix (drop k text)) refl is
  where
    k : ℕ
    k = digits_of base text

    by : (b : Bool) → is_suffix (drop (digits_of base text) text) ≡ b → cond b (spelled_by base (take (digits_of base text) text)) None ≡ Some v → list_all is_word_byte text ≡ true
    by false e is = absurd (cc)
    by true e is =
        let n : ℕ = digits_of base text in
        let letters = (and_parts (nat_le (length (drop n text)) 3) (list_all is_suffix_letter (drop n text)) e).1 in
        let front = all_more (λ c. is_digit c base) is_word_byte (λ c. digit_word base c small) (take n text) (run_passes (λ c. is_digit c base) text) in
        let back = all_more is_suffix_letter is_word_byte suffix_word (drop n text) letters in
        ap (list_all is_word_byte) (sym (take-append-drop n text)) ∙ list_all-append is_word_byte (take n text) (drop n text) ∙ and_from _ _ front back

number_words : (text : List ℕ) (v : ℕ) → number_of text ≡ Some v → list_all is_word_byte text ≡ true
number_words text v is = by (get_or text 0 0 == 48) refl (get_or text 1 0 == 120) refl is
  where
    hex : (text : List ℕ) → (get_or text 0 0 == 48) ≡ true → (get_or text 1 0 == 120) ≡ true → list_all is_word_byte (drop 2 text) ≡ true → list_all is_word_byte text ≡ true
    hex [] zero_first x rest = refl
    hex (a ∷ []) zero_first x rest = absurd (cc)
    hex (a ∷ b ∷ text) zero_first x rest = rw (eqb-true a 48 zero_first, eqb-true b 120 x) rest

    by : (a : Bool) → (get_or text 0 0 == 48) ≡ a → (b : Bool) → (get_or text 1 0 == 120) ≡ b → cond a (cond b (in_base 16 (drop 2 text)) (in_base 8 text)) (in_base 10 text) ≡ Some v → list_all is_word_byte text ≡ true
    by true p true q is = hex text p q (base_words 16 (omega arith) (drop 2 text) v is)
    by true p false q is = base_words 8 (omega arith) text v is
    by false p b q is = base_words 10 (omega arith) text v is

first_of_front : (text : List ℕ) (n : ℕ) → 0 < n → get_or (take n text) 0 0 ≡ get_or text 0 0
first_of_front text zero some = absurd (omega arith)
first_of_front [] (suc n) some = refl
first_of_front (c ∷ text) (suc n) some = refl

chosen : (t : Bool) (x y : Option Lexeme) → t ≡ true → cond t x y ≡ x
chosen true x y e = refl
chosen false x y e = absurd (cc)

-- what a front is whose first byte is a letter, or a digit
word_is : (front : List ℕ) (b : Bool) → is_letter (get_or front 0 0) ≡ true → list_all is_word_byte front ≡ b → lexeme_of front ≡ cond b (Some (Token (Word front))) None
word_is [] b letter all = absurd (cc)
word_is (c ∷ w) b letter all = chosen (is_letter c) _ _ letter ∙ ap (λ t. cond t (Some (Token (Word (c ∷ w)))) None) (sym same ∙ all)
  where
    same : (is_word_byte c && list_all is_word_byte w) ≡ list_all is_word_byte w
    same = ap (λ t. (t || is_ascii_digit c) && list_all is_word_byte w) letter

no_letter : (c : ℕ) → is_ascii_digit c ≡ true → is_letter c ≡ false
no_letter c digit = by (is_letter c) refl
  where
    by : (b : Bool) → is_letter c ≡ b → b ≡ false
    by false e = refl
    by true e = absurd (let none = letter_no_digit c e in cc)

number_is : (front : List ℕ) → is_ascii_digit (get_or front 0 0) ≡ true → lexeme_of front ≡ option_map (λ n. Token (Number n)) (number_of front)
number_is [] digit = absurd (cc)
number_is (c ∷ w) digit = rw (no_letter c digit, digit) refl

pub word_first : (text : List ℕ) → is_letter (get_or text 0 0) ≡ true → IsFirst text (position_or_len is_other text) (Token (Word (take (position_or_len is_other text) text)))
word_first text letter = record { longest = record { within = len_within is_other text; front = front; longest = longer }; whole = ap (λ d. d && is_word_byte (get_or text (position_or_len is_other text) 0)) (letter_no_digit (get_or text 0 0) letter) }
  where
    some : (n : ℕ) → position_or_len is_other text ≡ n → 0 < n
    some zero e = absurd (let stop = run_stops is_word_byte text 0 refl in let same : is_word_byte (get_or text 0 0) ≡ false = subst (λ k. is_word_byte (get_or text k 0) ≡ false) e stop in let word : is_word_byte (get_or text 0 0) ≡ true = ap (λ t. t || is_ascii_digit (get_or text 0 0)) letter in cc)
    some (suc n) e = omega arith

    front : lexeme_of (take (position_or_len is_other text) text) ≡ Some (Token (Word (take (position_or_len is_other text) text)))
    front = word_is (take (position_or_len is_other text) text) true (ap is_letter (first_of_front text (position_or_len is_other text) (some _ refl)) ∙ letter) (run_passes is_word_byte text)

    longer : (m : ℕ) → position_or_len is_other text < m → m ≤ length text → lexeme_of (take m text) ≡ None
    longer m more within = word_is (take m text) false (ap is_letter (first_of_front text m (omega (arith, more))) ∙ letter) (run_ends is_word_byte text m more within)

not_all : (front : List ℕ) → list_all is_word_byte front ≡ false → number_of front ≡ None
not_all front not = by (number_of front) refl
  where
    by : (o : Option ℕ) → number_of front ≡ o → o ≡ None
    by None e = refl
    by (Some v) e = absurd (let all = number_words front v e in cc)

module _ (text : List ℕ) (digit : is_ascii_digit (get_or text 0 0) ≡ true) where
  abbrev n : ℕ
  n = position_or_len is_other text

  digit_word_here : is_word_byte (get_or text 0 0) ≡ true
  digit_word_here = ap (λ b. is_letter (get_or text 0 0) || b) digit ∙ or_true (is_letter (get_or text 0 0))
    where
      or_true : (a : Bool) → (a || true) ≡ true
      or_true true = refl
      or_true false = refl

  some : (k : ℕ) → n ≡ k → 0 < k
  some zero e = absurd (let stop = run_stops is_word_byte text 0 refl in let same : is_word_byte (get_or text 0 0) ≡ false = subst (λ k. is_word_byte (get_or text k 0) ≡ false) e stop in let word = digit_word_here in cc)
  some (suc k) e = omega arith

  digit_front : (m : ℕ) → 0 < m → lexeme_of (take m text) ≡ option_map (λ v. Token (Number v)) (number_of (take m text))
  digit_front m more = number_is (take m text) (ap is_ascii_digit (first_of_front text m more) ∙ digit)

  longer : (m : ℕ) → n < m → m ≤ length text → lexeme_of (take m text) ≡ None
  longer m more within = digit_front m (omega (arith, more)) ∙ ap (option_map (λ v. Token (Number v))) (not_all (take m text) (run_ends is_word_byte text m more within))

  pub number_first : (v : ℕ) → number_of (take n text) ≡ Some v → IsFirst text n (Token (Number v))
  number_first v is = record {
    longest = record { within = len_within is_other text; front = digit_front n (some n refl) ∙ ap (option_map (λ v'. Token (Number v'))) is; longest = longer };
    whole = ap (λ d. d && is_word_byte (get_or text n 0)) digit ∙ run_stops is_word_byte text 0 refl;
  }

  pub number_none : number_of (take n text) ≡ None → IsNone text
  number_none none zero l within is = absurd (cc)
  number_none none (suc m) l within is = by (nat_lt (suc m) n) refl (nat_lt n (suc m)) refl
    where
      by : (a : Bool) → nat_lt (suc m) n ≡ a → (b : Bool) → nat_lt n (suc m) ≡ b → is_cut text (suc m) ≡ true
      by true p b q = ap (λ d. d && is_word_byte (get_or text (suc m) 0)) digit ∙ run_goes_on is_word_byte text (suc m) 0 (ltb-true (suc m) n p)
      by false p true q = absurd (let e = longer (suc m) (ltb-true n (suc m) q) within in cc)
      by false p false q = absurd (let same : suc m ≡ n = omega (arith, ltb-false (suc m) n p, ltb-false n (suc m) q) in let e = digit_front (suc m) (omega arith) ∙ ap (option_map (λ v. Token (Number v))) (ap (λ k. number_of (take k text)) same ∙ none) in cc)

-- what lies after a first byte that tells the kind
module _ {A : Type 0} (of : List ℕ → Option A) (f : A → Lexeme) (c : ℕ) (kind : (front : List ℕ) → lexeme_of (c ∷ front) ≡ option_map f (of front)) where
  pub behind : (text : List ℕ) (n : ℕ) (a : A) → IsLongest of text n a → IsLongest lexeme_of (c ∷ text) (1 + n) (f a)
  behind text n a is = record { within = let w = is.within in omega (arith, w); front = front; longest = longer }
    where
      front : lexeme_of (take (1 + n) (c ∷ text)) ≡ Some (f a)
      front = ap (λ k. lexeme_of (take k (c ∷ text))) (one_plus n) ∙ kind (take n text) ∙ ap (option_map f) is.front

      longer : (m : ℕ) → 1 + n < m → m ≤ length (c ∷ text) → lexeme_of (take m (c ∷ text)) ≡ None
      longer zero more within = absurd (omega arith)
      longer (suc m) more within = kind (take m text) ∙ ap (option_map f) (is.longest m (omega arith) (omega arith))

  pub none_behind : (text : List ℕ) → IsNowhere of text → IsNone (c ∷ text)
  none_behind text none zero l within is = absurd (cc)
  none_behind text none (suc n) l within is = absurd (let e = kind (take n text) ∙ ap (option_map f) (none n (omega arith)) in cc)

pub string_first : (text : List ℕ) (n : ℕ) (v : List ℕ) → 0 < length text → get_or text 0 0 ≡ 34 → IsLongest string_of (drop 1 text) n v → IsFirst text (1 + n) (Token (Str v))
string_first text n v some quote is = rw (by_first text 34 some quote) (record { longest = behind string_of (λ s. Token (Str s)) 34 (λ front. refl) (drop 1 text) n v is; whole = refl })

pub string_none : (text : List ℕ) → 0 < length text → get_or text 0 0 ≡ 34 → IsNowhere string_of (drop 1 text) → IsNone text
string_none text some quote none = rw (by_first text 34 some quote) (none_behind string_of (λ s. Token (Str s)) 34 (λ front. refl) (drop 1 text) none)

pub comment_first : (text : List ℕ) (n : ℕ) → 0 < length text → get_or text 0 0 ≡ 47 → IsLongest comment_of (drop 1 text) n (tt {0}) → IsFirst text (1 + n) Gap
comment_first text n some slash is = rw (by_first text 47 some slash) (record { longest = behind comment_of (λ _. Gap) 47 (λ front. refl) (drop 1 text) n (tt {0}) is; whole = refl })

pub comment_none : (text : List ℕ) → 0 < length text → get_or text 0 0 ≡ 47 → IsNowhere comment_of (drop 1 text) → IsNone text
comment_none text some slash none = rw (by_first text 47 some slash) (none_behind comment_of (λ _. Gap) 47 (λ front. refl) (drop 1 text) none)

-- a first byte that begins no word, number, string or comment
module _ (c : ℕ) (letter : is_letter c ≡ false) (digit : is_ascii_digit c ≡ false) (quote : c ≢ 34) (slash : c ≢ 47) where
  no_match : (n : ℕ) → c ≢ n → (c == n) ≡ false
  no_match n other = by (c == n) refl
    where
      by : (b : Bool) → (c == n) ≡ b → b ≡ false
      by false e = refl
      by true e = absurd (other (eqb-true c n e))

  kind : (front : List ℕ) → lexeme_of (c ∷ front) ≡ cond (is_space c) (cond (is_empty front) (Some Gap) None) (option_map (λ m. Token (Mark m)) (mark_of (c ∷ front)))
  kind front = rw (letter, digit, no_match 34 quote, no_match 47 slash) refl

  blank : List ℕ → Option (Unit {0})
  blank front = cond (is_empty front) (Some (tt {0})) None

  space_kind : is_space c ≡ true → (front : List ℕ) → lexeme_of (c ∷ front) ≡ option_map (λ _. Gap) (blank front)
  unfolding blank
  space_kind space front = kind front ∙ ap (λ b. cond b (cond (is_empty front) (Some Gap) None) (option_map (λ m. Token (Mark m)) (mark_of (c ∷ front)))) space ∙ by front
    where
      by : (front : List ℕ) → cond (is_empty front) (Some Gap) None ≡ option_map (λ _. Gap) (blank front)
      by [] = refl
      by (d ∷ front) = refl

  blank_longest : (text : List ℕ) → IsLongest blank text 0 (tt {0})
  unfolding blank
  blank_longest text = record { within = omega arith; front = refl; longest = longer text }
    where
      longer : (text : List ℕ) (m : ℕ) → 0 < m → m ≤ length text → blank (take m text) ≡ None
      longer text zero more within = absurd (omega arith)
      longer [] (suc m) more within = absurd (omega arith)
      longer (d ∷ text) (suc m) more within = refl

  pub space_first : is_space c ≡ true → (text : List ℕ) → 0 < length text → get_or text 0 0 ≡ c → IsFirst text 1 Gap
  space_first space text some first = rw (by_first text c some first) (record { longest = behind blank (λ _. Gap) c (space_kind space) (drop 1 text) 0 (tt {0}) (blank_longest (drop 1 text)); whole = ap (λ d. d && is_word_byte (get_or (c ∷ drop 1 text) 1 0)) digit })

  module _ (space : is_space c ≡ false) (text : List ℕ) (some : 0 < length text) (first : get_or text 0 0 ≡ c) where
    abbrev marked : MarkKind → Lexeme
    marked m = Token (Mark m)

    same_front : (k : ℕ) → lexeme_of (take k (c ∷ drop 1 text)) ≡ option_map marked (mark_of (take k (c ∷ drop 1 text)))
    same_front zero = refl
    same_front (suc k) = kind (take k (drop 1 text)) ∙ ap (λ b. cond b (cond (is_empty (take k (drop 1 text))) (Some Gap) None) (option_map marked (mark_of (c ∷ take k (drop 1 text))))) space

    same : (k : ℕ) → lexeme_of (take k text) ≡ option_map marked (mark_of (take k text))
    same k = subst (λ t. lexeme_of (take k t) ≡ option_map marked (mark_of (take k t))) (sym (by_first text c some first)) (same_front k)

    pub mark_first : (n : ℕ) (m : MarkKind) → IsLongest mark_of text n m → IsFirst text n (Token (Mark m))
    mark_first n m is = record {
      longest = record { within = is.within; front = same n ∙ ap (option_map marked) is.front; longest = λ k more within. same k ∙ ap (option_map marked) (is.longest k more within) };
      whole = ap (λ d. d && is_word_byte (get_or text n 0)) (ap is_ascii_digit first ∙ digit);
    }

    pub mark_none : IsNowhere mark_of text → IsNone text
    mark_none none n l within is = absurd (let e = same n ∙ ap (option_map marked) (none n within) in cc)

pub empty_none : (text : List ℕ) → length text ≡ 0 → IsNone text
empty_none [] e zero l within is = absurd (cc)
empty_none [] e (suc n) l within is = absurd (omega arith)
empty_none (c ∷ text) e n l within is = absurd (omega arith)
