-- Strings at the front of a text.
use Rattle.std.proofs.Common.{◌≡◌, ◌≢◌, ℕ, zero, suc, ◌+◌, ◌-◌, ◌*◌, ◌<◌, ◌≤◌, Bool, true, false, cond, List, [], ◌∷◌, ◌++◌, length, take, drop, get_or, Option, Some, None, refl, sym, ap, ◌∙◌, arith, nat_lt, append-nil, append_assoc, length-append}
use Rattle.std.specs.Prelude.{◌==◌, ◌&&◌, option_map, option_and_then}
use Rattle.std.specs.Char.{digit_value, is_digit}
use Rattle.std.proofs.lemmas.List.{drop-drop, take-append-drop, length-drop}
use Rattle.std.proofs.lemmas.Bool.{eqb-true}
use Rattle.tsdl_lex.proofs.Fronts.{by_first}
use Rattle.tsdl_lex.specs.Longest.{IsLongest, IsNowhere, at_end}
use Rattle.tsdl_lex.specs.Strings.{simple_escape, hex_second, hex_escape, octal_second, octal_third, escape, prepend, content, string_of}

-- a longer front is a front and what follows it
take_parts : (n k m : ℕ) (xs : List ℕ) → m ≡ n + k → take m xs ≡ take n xs ++ take k (drop n xs)
take_parts zero k m xs is = ap (λ j. take j xs) (is ∙ (let e : 0 + k ≡ k = omega arith in e))
take_parts (suc n) k zero xs is = absurd (omega (arith, is))
take_parts (suc n) zero (suc m) [] is = refl
take_parts (suc n) (suc k) (suc m) [] is = refl
take_parts (suc n) k (suc m) (x ∷ xs) is = ap (λ l. x ∷ l) (take_parts n k m xs (omega (arith, is)))

-- bytes before what is read
abbrev pub before : List ℕ → Option (List ℕ × List ℕ) → Option (List ℕ × List ℕ)
before bytes read = option_map (λ r. (bytes ++ r.0, r.1)) read

before_nothing : (read : Option (List ℕ × List ℕ)) → before [] read ≡ read
before_nothing None = refl
before_nothing (Some r) = refl

before_one : (bytes : List ℕ) (b : ℕ) (read : Option (List ℕ × List ℕ)) → before bytes (prepend b read) ≡ before (bytes ++ b ∷ []) read
before_one bytes b None = refl
before_one bytes b (Some r) = ap (λ l. Some (l, r.1)) (sym (append_assoc bytes (b ∷ []) r.0))

-- what an escape takes is passed over
skips : (k : ℕ) (xs : List ℕ) → k ≤ length xs → content k xs ≡ content 0 (drop k xs)
unfolding content
skips zero xs h = refl
skips (suc k) [] h = absurd (omega arith)
skips (suc k) (x ∷ xs) h = skips k xs (omega arith)

-- one step of reading, at each kind of byte
module _ (text : List ℕ) (some : 0 < length text) where
  abbrev rest : List ℕ
  rest = drop 1 text

  at_byte : (c : ℕ) → get_or text 0 0 ≡ c → content 0 text ≡ content 0 (c ∷ rest)
  at_byte c is = ap (content 0) (by_first text c some is)

  pub at_quote : get_or text 0 0 ≡ 34 → content 0 text ≡ Some ([], rest)
  unfolding content
  at_quote is = at_byte 34 is

  pub at_line_feed : get_or text 0 0 ≡ 10 → content 0 text ≡ None
  unfolding content
  at_line_feed is = at_byte 10 is

  pub at_escape : get_or text 0 0 ≡ 92 → (b k : ℕ) → escape rest ≡ Some (b, k) → k ≤ length rest → content 0 text ≡ prepend b (content 0 (drop (1 + k) text))
  unfolding content
  at_escape is b k e within = at_byte 92 is ∙ ap (option_and_then (λ e'. prepend e'.0 (content e'.1 rest))) e ∙ ap (prepend b) (skips k rest within ∙ ap (content 0) (drop-drop k 1 text))

  pub at_no_escape : get_or text 0 0 ≡ 92 → escape rest ≡ None → content 0 text ≡ None
  unfolding content
  at_no_escape is e = at_byte 92 is ∙ ap (option_and_then (λ e'. prepend e'.0 (content e'.1 rest))) e

  pub at_plain : (c : ℕ) → get_or text 0 0 ≡ c → c ≢ 34 → c ≢ 10 → c ≢ 92 → content 0 text ≡ prepend c (content 0 rest)
  unfolding content
  at_plain c is quote feed slash = at_byte c is ∙ by (c == 34) refl (c == 10) refl (c == 92) refl
    where
      by : (a : Bool) → (c == 34) ≡ a → (b : Bool) → (c == 10) ≡ b → (d : Bool) → (c == 92) ≡ d → cond a (Some ([], rest)) (cond b None (cond d (option_and_then (λ e'. prepend e'.0 (content e'.1 rest)) (escape rest)) (prepend c (content 0 rest)))) ≡ prepend c (content 0 rest)
      by true p b q d r = absurd (quote (eqb-true c 34 p))
      by false p true q d r = absurd (feed (eqb-true c 10 q))
      by false p false q true r = absurd (slash (eqb-true c 92 r))
      by false p false q false r = refl

pub at_end_of : (text : List ℕ) (at : ℕ) → length text ≤ at → content 0 (drop at text) ≡ None
unfolding content
at_end_of [] zero h = refl
at_end_of [] (suc at) h = refl
at_end_of (c ∷ text) zero h = absurd (omega arith)
at_end_of (c ∷ text) (suc at) h = at_end_of text at (omega arith)

-- what was read so far, and what is read of the rest
pub one_more : (bytes : List ℕ) (b : ℕ) (whole left next : Option (List ℕ × List ℕ)) → whole ≡ before bytes left → left ≡ prepend b next → whole ≡ before (bytes ++ b ∷ []) next
one_more bytes b whole left next so_far step = so_far ∙ ap (before bytes) step ∙ before_one bytes b next

pub at_start : (read : Option (List ℕ × List ℕ)) → read ≡ before [] read
at_start read = sym (before_nothing read)

pub closing : (bytes after : List ℕ) (whole left : Option (List ℕ × List ℕ)) → whole ≡ before bytes left → left ≡ Some ([], after) → whole ≡ Some (bytes, after)
closing bytes after whole left so_far last = so_far ∙ ap (before bytes) last ∙ ap (λ l. Some (l, after)) (append-nil bytes)

pub nothing : (bytes : List ℕ) (whole left : Option (List ℕ × List ℕ)) → whole ≡ before bytes left → left ≡ None → whole ≡ None
nothing bytes whole left so_far none = so_far ∙ ap (before bytes) none

abbrev first : Option (List ℕ × List ℕ) → List ℕ
first None = []
first (Some r) = r.0

abbrev second : Option (List ℕ × List ℕ) → List ℕ
second None = []
second (Some r) = r.1

prepended : (b : ℕ) (read : Option (List ℕ × List ℕ)) (v r : List ℕ) → prepend b read ≡ Some (v, r) → (v' : List ℕ) × (read ≡ Some (v', r)) × (v ≡ b ∷ v')
prepended b None v r is = absurd (cc)
prepended b (Some p) v r is = (p.0, ap (λ l. Some (p.0, l)) (ap second is), sym (ap first is))

-- how much reading takes at least: what is passed over, and the closing quote
takes : (k : ℕ) (xs : List ℕ) (v r : List ℕ) → content k xs ≡ Some (v, r) → k + 1 + length r ≤ length xs
unfolding content
takes zero [] v r is = absurd (cc)
takes (suc k) [] v r is = absurd (cc)
takes (suc k) (c ∷ xs) v r is = let less = takes k xs v r is in omega (arith, less)
takes zero (c ∷ xs) v r is = by (c == 34) (c == 10) (c == 92) is (λ v'. takes zero xs v' r) (λ k v'. takes k xs v' r)
  where
    escaped : (e : Option (ℕ × ℕ)) → option_and_then (λ e'. prepend e'.0 (content e'.1 xs)) e ≡ Some (v, r) → ((k : ℕ) (v' : List ℕ) → content k xs ≡ Some (v', r) → k + 1 + length r ≤ length xs) → 0 + 1 + length r ≤ suc (length xs)
    escaped None is more = absurd (cc)
    escaped (Some e) is more = let p = prepended e.0 (content e.1 xs) v r is in let less = more e.1 p.0 p.1 in omega (arith, less)

    by : (a b d : Bool) → cond a (Some ([], xs)) (cond b None (cond d (option_and_then (λ e'. prepend e'.0 (content e'.1 xs)) (escape xs)) (prepend c (content 0 xs)))) ≡ Some (v, r) → ((v' : List ℕ) → content 0 xs ≡ Some (v', r) → 0 + 1 + length r ≤ length xs) → ((k : ℕ) (v' : List ℕ) → content k xs ≡ Some (v', r) → k + 1 + length r ≤ length xs) → 0 + 1 + length r ≤ suc (length xs)
    by true b d is plain more = let size : length xs ≡ length r = ap length (ap second is) in omega (arith, size)
    by false true d is plain more = absurd (cc)
    by false false true is plain more = escaped (escape xs) is more
    by false false false is plain more = let p = prepended c (content 0 xs) v r is in let less = plain p.0 p.1 in omega (arith, less)

-- an escape looks no further than at the byte after it
abbrev length_of : Option (ℕ × ℕ) → ℕ
length_of None = 0
length_of (Some e) = e.1

hex_two : (xs : List ℕ) (b j : ℕ) → hex_escape xs ≡ Some (b, j) → 2 ≤ j
hex_two [] b j is = absurd (cc)
hex_two (d ∷ xs) b j is = by (is_digit d 16) xs is
  where
    third : (t : Bool) (m n : ℕ × ℕ) → m.1 ≡ 3 → n.1 ≡ 2 → Some (cond t m n) ≡ Some (b, j) → 2 ≤ j
    third true m n three two is = let e : m.1 ≡ j = ap length_of is in omega (arith, e, three)
    third false m n three two is = let e : n.1 ≡ j = ap length_of is in omega (arith, e, two)

    by : (t : Bool) (xs : List ℕ) → cond t (Some (hex_second (digit_value d) xs)) None ≡ Some (b, j) → 2 ≤ j
    by false xs is = absurd (cc)
    by true [] is = let e : 2 ≡ j = ap length_of is in omega (arith, e)
    by true (e ∷ xs) is = third (is_digit e 16) (16 * digit_value d + digit_value e, 3) (digit_value d, 2) refl refl is

third_two : (n : ℕ) (xs : List ℕ) → 2 ≤ (octal_third n xs).1
third_two n [] = omega arith
third_two n (d ∷ xs) = by (is_digit d 8 && nat_lt (8 * n + digit_value d) 256)
  where
    by : (t : Bool) → 2 ≤ (cond {A = ℕ × ℕ} t (8 * n + digit_value d, 3) (n, 2)).1
    by true = omega arith
    by false = omega arith

second_one : (n : ℕ) (xs : List ℕ) → 1 ≤ (octal_second n xs).1
second_one n [] = omega arith
second_one n (d ∷ xs) = by (is_digit d 8)
  where
    by : (t : Bool) → 1 ≤ (cond {A = ℕ × ℕ} t (octal_third (8 * n + digit_value d) xs) (n, 1)).1
    by true = let two = third_two (8 * n + digit_value d) xs in omega (arith, two)
    by false = omega arith

same_escape : (f r s : List ℕ) (b j : ℕ) → escape (f ++ r) ≡ Some (b, j) → j + 1 ≤ length f → escape (f ++ s) ≡ Some (b, j)
same_escape [] r s b j is less = absurd (omega arith)
same_escape (a ∷ f) r s b j is less = by (a == 120) (is_digit a 8) f is less
  where
    octal : (d : ℕ) (t : Bool) → Some (cond t (octal_third (8 * digit_value a + digit_value d) r) (digit_value a, 1)) ≡ Some (b, j) → j + 1 ≤ 2 → Some (cond t (octal_third (8 * digit_value a + digit_value d) s) (digit_value a, 1)) ≡ Some (b, j)
    octal d true is less = absurd (let two = third_two (8 * digit_value a + digit_value d) r in let e : (octal_third (8 * digit_value a + digit_value d) r).1 ≡ j = ap length_of is in omega (arith, two, e, less))
    octal d false is less = is

    by : (x o : Bool) (f : List ℕ) → cond x (hex_escape (f ++ r)) (cond o (Some (octal_second (digit_value a) (f ++ r))) (option_map (λ b'. (b', 1)) (simple_escape a))) ≡ Some (b, j) → j + 1 ≤ suc (length f) → cond x (hex_escape (f ++ s)) (cond o (Some (octal_second (digit_value a) (f ++ s))) (option_map (λ b'. (b', 1)) (simple_escape a))) ≡ Some (b, j)
    by true o [] is less = absurd (let two = hex_two r b j is in omega (arith, two, less))
    by true o (d ∷ []) is less = absurd (let two = hex_two (d ∷ r) b j is in omega (arith, two, less))
    by true o (d ∷ e ∷ f) is less = is
    by false true [] is less = absurd (let one = second_one (digit_value a) r in let e : (octal_second (digit_value a) r).1 ≡ j = ap length_of is in omega (arith, one, e, less))
    by false true (d ∷ []) is less = octal d (is_digit d 8) is less
    by false true (d ∷ e ∷ f) is less = is
    by false false f is less = is

-- reading depends on what it takes alone
swap : (f r s : List ℕ) (k : ℕ) (v : List ℕ) → content k (f ++ r) ≡ Some (v, r) → content k (f ++ s) ≡ Some (v, s)
unfolding content
swap [] r s k v is = absurd (let less = takes k r v r is in omega (arith, less))
swap (c ∷ f) r s (suc k) v is = swap f r s k v is
swap (c ∷ f) r s zero v is = by (c == 34) (c == 10) (c == 92) is (swap f r s)
  where
    ended : (f : List ℕ) → f ++ r ≡ r → f ≡ []
    ended [] e = refl
    ended (d ∷ f) e = absurd (let size : length (d ∷ f ++ r) ≡ length r = ap length e in let sum = length-append f r in omega (arith, size, sum))

    escaped : (e : Option (ℕ × ℕ)) → escape (f ++ r) ≡ e → option_and_then (λ e'. prepend e'.0 (content e'.1 (f ++ r))) e ≡ Some (v, r) → ((k : ℕ) (v' : List ℕ) → content k (f ++ r) ≡ Some (v', r) → content k (f ++ s) ≡ Some (v', s)) → option_and_then (λ e'. prepend e'.0 (content e'.1 (f ++ s))) (escape (f ++ s)) ≡ Some (v, s)
    escaped None same is more = absurd (cc)
    escaped (Some e) same is more =
        let p = prepended e.0 (content e.1 (f ++ r)) v r is in
        let less = takes e.1 (f ++ r) p.0 r p.1 in
        let sum = length-append f r in
        let again : escape (f ++ s) ≡ Some (e.0, e.1) = same_escape f r s e.0 e.1 same (omega (arith, less, sum)) in
        ap (option_and_then (λ e'. prepend e'.0 (content e'.1 (f ++ s)))) again ∙ ap (prepend e.0) (more e.1 p.0 p.1) ∙ ap (λ l. Some (l, s)) (sym p.2)

    by : (a b d : Bool) → cond a (Some ([], f ++ r)) (cond b None (cond d (option_and_then (λ e'. prepend e'.0 (content e'.1 (f ++ r))) (escape (f ++ r))) (prepend c (content 0 (f ++ r))))) ≡ Some (v, r) → ((k : ℕ) (v' : List ℕ) → content k (f ++ r) ≡ Some (v', r) → content k (f ++ s) ≡ Some (v', s)) → cond a (Some ([], f ++ s)) (cond b None (cond d (option_and_then (λ e'. prepend e'.0 (content e'.1 (f ++ s))) (escape (f ++ s))) (prepend c (content 0 (f ++ s))))) ≡ Some (v, s)
    by true b d is more = let none = ended f (ap second is) in (λ i. Some (ap first is i, none i ++ s))
    by false true d is more = absurd (cc)
    by false false true is more = escaped (escape (f ++ r)) refl is more
    by false false false is more = let p = prepended c (content 0 (f ++ r)) v r is in ap (prepend c) (more 0 p.0 p.1) ∙ ap (λ l. Some (l, s)) (sym p.2)

ended_at : (read : Option (List ℕ × List ℕ)) (v : List ℕ) → option_and_then (λ r. at_end r.0 r.1) read ≡ Some v → read ≡ Some (v, [])
ended_at None v is = absurd (cc)
ended_at (Some (w, [])) v is = let e : w ≡ v = cc in ap (λ l. Some (l, [])) e
ended_at (Some (w, c ∷ r)) v is = absurd (cc)

pub longest_string : (text : List ℕ) (n : ℕ) (v : List ℕ) → n ≤ length text → content 0 text ≡ Some (v, drop n text) → IsLongest string_of text n v
longest_string text n v within is = record { within = within; front = front; longest = longer }
  where
    read : content 0 (take n text ++ drop n text) ≡ Some (v, drop n text)
    read = ap (content 0) (take-append-drop n text) ∙ is

    front : string_of (take n text) ≡ Some v
    front = ap (option_and_then (λ r. at_end r.0 r.1)) (ap (content 0) (sym (append-nil (take n text))) ∙ swap (take n text) (drop n text) [] 0 v read)

    beyond : (l : List ℕ) (k : ℕ) → 0 < k → k ≤ length l → at_end v (take k l) ≡ None
    beyond [] k some within = absurd (omega arith)
    beyond (c ∷ l) zero some within = absurd (omega arith)
    beyond (c ∷ l) (suc k) some within = refl

    longer : (m : ℕ) → n < m → m ≤ length text → string_of (take m text) ≡ None
    longer m more fits =
        let size = length-drop n text in
        let split : take m text ≡ take n text ++ take (m - n) (drop n text) = take_parts n (m - n) m text (omega (arith, more)) in
        ap (option_and_then (λ r. at_end r.0 r.1)) (ap (content 0) split ∙ swap (take n text) (drop n text) (take (m - n) (drop n text)) 0 v read) ∙ beyond (drop n text) (m - n) (omega (arith, more)) (omega (arith, size, more, fits))

pub no_string : (text : List ℕ) → content 0 text ≡ None → IsNowhere string_of text
no_string text none n within = by (string_of (take n text)) refl
  where
    by : (o : Option (List ℕ)) → string_of (take n text) ≡ o → o ≡ None
    by None e = refl
    by (Some v) e =
        let read : content 0 (take n text ++ []) ≡ Some (v, []) = ap (content 0) (append-nil (take n text)) ∙ ended_at (content 0 (take n text)) v e in
        let whole : content 0 text ≡ Some (v, drop n text) = ap (content 0) (sym (take-append-drop n text)) ∙ swap (take n text) [] (drop n text) 0 v read in
        absurd (cc)
