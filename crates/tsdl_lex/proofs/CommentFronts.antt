-- Comments at the front of a text.
use Rattle.std.proofs.Common.{◌≡◌, ◌≢◌, ℕ, zero, suc, ◌+◌, ◌-◌, ◌<◌, ◌≤◌, Bool, true, false, not, cond, List, [], ◌∷◌, length, take, drop, get_or, Some, None, refl, ap, ◌∙◌, subst, arith, eqb}
use Rattle.std.specs.Prelude.{◌==◌, ◌&&◌, option_and_then}
use Rattle.std.specs.List.{starts_with, list_all, position_or_len}
use Rattle.std.proofs.lemmas.Bool.{eqb-true}
use Rattle.std.proofs.lemmas.List.{drop_more}
use Rattle.std.proofs.Math.Seq.{drop-drop}
use Rattle.tsdl_lex.specs.Longest.{IsLongest, IsNowhere, at_end}
use Rattle.tsdl_lex.specs.Marks.{after_close, is_in_line, comment_of}
use Rattle.tsdl_lex.proofs.Fronts.{one_plus, run_passes, run_ends, len_within}

abbrev pub closes_here : List ℕ → Bool
closes_here text = starts_with eqb text (42 ∷ 47 ∷ [])

-- a front closes where the text does
front_closes : (text : List ℕ) (n : ℕ) → closes_here (take n text) ≡ true → closes_here text ≡ true
front_closes [] zero h = h
front_closes [] (suc n) h = h
front_closes (a ∷ rest) zero h = absurd (cc)
front_closes (a ∷ []) (suc zero) h = h
front_closes (a ∷ []) (suc (suc n)) h = h
front_closes (a ∷ b ∷ rest) (suc zero) h = absurd (let e : (eqb 42 a && false) ≡ true = h in never (eqb 42 a) e)
  where
    never : (x : Bool) → (x && false) ≡ true → ⊥
    never true e = absurd (cc)
    never false e = absurd (cc)
front_closes (a ∷ b ∷ rest) (suc (suc n)) h = h

pub unclosed : (text : List ℕ) (n : ℕ) → after_close text ≡ None → after_close (take n text) ≡ None
unclosed [] zero none = refl
unclosed [] (suc n) none = refl
unclosed (c ∷ rest) zero none = refl
unclosed (c ∷ rest) (suc n) none = by (closes_here (c ∷ take n rest)) refl (closes_here (c ∷ rest)) refl none (unclosed rest n)
  where
    by : (b : Bool) → closes_here (c ∷ take n rest) ≡ b → (d : Bool) → closes_here (c ∷ rest) ≡ d → cond d (Some (drop 1 rest)) (after_close rest) ≡ None → (after_close rest ≡ None → after_close (take n rest) ≡ None) → cond b (Some (drop 1 (take n rest))) (after_close (take n rest)) ≡ None
    by b e true f none more = absurd (cc)
    by true e false f none more = let g = front_closes (c ∷ rest) (suc n) e in absurd (cc)
    by false e false f none more = more none

some_is : {A : Type 0} {a b : A} → Some a ≡ Some b → a ≡ b
some_is h = cc

leaves_less : (text rest : List ℕ) → after_close text ≡ Some rest → 2 + length rest ≤ length text
leaves_less [] rest is = absurd (cc)
leaves_less (c ∷ []) rest is = never (eqb 42 c) is
  where
    never : (x : Bool) → cond (x && false) (Some []) None ≡ Some rest → 2 + length rest ≤ 1
    never true e = absurd (cc)
    never false e = absurd (cc)
leaves_less (c ∷ d ∷ text) rest is = by (closes_here (c ∷ d ∷ text)) is (leaves_less (d ∷ text) rest)
  where
    by : (b : Bool) → cond b (Some text) (after_close (d ∷ text)) ≡ Some rest → (after_close (d ∷ text) ≡ Some rest → 2 + length rest ≤ length (d ∷ text)) → 2 + length rest ≤ length (c ∷ d ∷ text)
    by true is more = let same : length text ≡ length rest = ap length (some_is is) in omega (arith, same)
    by false is more = let less = more is in omega (arith, less)

-- a front that holds the end of the comment, and what it holds after it
pub closed : (text rest : List ℕ) (m : ℕ) → after_close text ≡ Some rest → length text ≤ m + length rest → after_close (take m text) ≡ Some (take (m + length rest - length text) rest)
closed [] rest m is size = absurd (cc)
closed (c ∷ []) rest m is size = absurd (let less = leaves_less (c ∷ []) rest is in omega (arith, less))
closed (c ∷ d ∷ text) rest zero is size = absurd (let less = leaves_less (c ∷ d ∷ text) rest is in omega (arith, less, size))
closed (c ∷ d ∷ text) rest (suc zero) is size = absurd (let less = leaves_less (c ∷ d ∷ text) rest is in omega (arith, less, size))
closed (c ∷ d ∷ text) rest (suc (suc m)) is size = by (closes_here (c ∷ d ∷ text)) is (closed (d ∷ text) rest (suc m))
  where
    by : (b : Bool) → cond b (Some text) (after_close (d ∷ text)) ≡ Some rest → (after_close (d ∷ text) ≡ Some rest → length (d ∷ text) ≤ suc m + length rest → after_close (take (suc m) (d ∷ text)) ≡ Some (take (suc m + length rest - length (d ∷ text)) rest)) → cond b (Some (take m text)) (after_close (take (suc m) (d ∷ text))) ≡ Some (take (suc (suc m) + length rest - length (c ∷ d ∷ text)) rest)
    by true is more =
        let same : text ≡ rest = some_is is in
        let size_is : length text ≡ length rest = ap length same in
        let left : m ≡ suc (suc m) + length rest - length (c ∷ d ∷ text) = omega (arith, size_is) in
        (λ i. Some (take (left i) (same i)))
    by false is more = more is (omega (arith, size)) ∙ ap (λ k. Some (take k rest)) (omega arith)

here : (c : ℕ) (rest : List ℕ) (b : Bool) → closes_here (c ∷ rest) ≡ b → after_close (c ∷ rest) ≡ cond b (Some (drop 1 rest)) (after_close rest)
here c rest b e = ap (λ t. cond t (Some (drop 1 rest)) (after_close rest)) e

pub shut : (body : List ℕ) (at : ℕ) → at < length body → closes_here (drop at body) ≡ true → after_close (drop at body) ≡ Some (drop (at + 2) body)
shut body at h e =
    let more = drop_more body at 0 h in
    ap after_close more ∙ here (get_or body at 0) (drop (at + 1) body) true (subst (λ l. closes_here l ≡ true) more e) ∙ ap (λ l. Some l) (drop-drop 1 (at + 1) body ∙ ap (λ k. drop k body) (omega arith))

pub open_still : (body : List ℕ) (at : ℕ) → at < length body → closes_here (drop at body) ≡ false → after_close (drop at body) ≡ after_close (drop (at + 1) body)
open_still body at h e = let more = drop_more body at 0 h in ap after_close more ∙ here (get_or body at 0) (drop (at + 1) body) false (subst (λ l. closes_here l ≡ false) more e)

pub open_end : (body : List ℕ) (at : ℕ) → length body ≤ at → after_close (drop at body) ≡ None
open_end [] zero h = refl
open_end [] (suc at) h = refl
open_end (c ∷ body) zero h = absurd (omega arith)
open_end (c ∷ body) (suc at) h = open_end body at (omega arith)

pub closes_two : (text : List ℕ) → closes_here text ≡ true → 2 ≤ length text
closes_two [] h = absurd (cc)
closes_two (a ∷ []) h = absurd (let e : (eqb 42 a && false) ≡ true = h in never (eqb 42 a) e)
  where
    never : (x : Bool) → (x && false) ≡ true → ⊥
    never true e = absurd (cc)
    never false e = absurd (cc)
closes_two (a ∷ b ∷ rest) h = omega arith

-- a closed comment after the first slash, as the longest
pub block_comment : (body rest : List ℕ) (n : ℕ) → after_close body ≡ Some rest → length body ≡ n + length rest → IsLongest comment_of (42 ∷ body) (1 + n) tt
block_comment body rest n is size = record { within = omega (arith, size); front = exact; longest = longer }
  where
    exact : comment_of (take (1 + n) (42 ∷ body)) ≡ Some tt
    exact = ap (λ k. comment_of (take k (42 ∷ body))) (one_plus n) ∙ ap (option_and_then (at_end (tt {0}))) (closed body rest n is (omega (arith, size)) ∙ ap (λ k. Some (take k rest)) (let none : n + length rest - length body ≡ 0 = omega (arith, size) in none))

    beyond : (l : List ℕ) (k : ℕ) → 0 < k → k ≤ length l → at_end (tt {0}) (take k l) ≡ None
    beyond [] k some within = absurd (omega arith)
    beyond (c ∷ l) zero some within = absurd (omega arith)
    beyond (c ∷ l) (suc k) some within = refl

    longer : (m : ℕ) → 1 + n < m → m ≤ length (42 ∷ body) → comment_of (take m (42 ∷ body)) ≡ None
    longer zero more within = absurd (omega arith)
    longer (suc m) more within = ap (option_and_then (at_end (tt {0}))) (closed body rest m is (omega (arith, more, size))) ∙ beyond rest (m + length rest - length body) (omega (arith, more, size)) (omega (arith, more, within, size))

pub line_comment : (body : List ℕ) → IsLongest comment_of (47 ∷ body) (1 + position_or_len (λ c. not (is_in_line c)) body) tt
line_comment body =
    let n : ℕ = position_or_len (λ c. not (is_in_line c)) body in
    let within : n ≤ length body = len_within (λ c. not (is_in_line c)) body in
    record { within = omega (arith, within); front = exact; longest = longer }
  where
    size : ℕ
    size = position_or_len (λ c. not (is_in_line c)) body

    exact : comment_of (take (1 + size) (47 ∷ body)) ≡ Some tt
    exact = ap (λ k. comment_of (take k (47 ∷ body))) (one_plus size) ∙ ap (λ b. cond b (Some (tt {0})) None) (run_passes is_in_line body)

    longer : (m : ℕ) → 1 + size < m → m ≤ length (47 ∷ body) → comment_of (take m (47 ∷ body)) ≡ None
    longer zero more within = absurd (omega arith)
    longer (suc m) more within = ap (λ b. cond b (Some (tt {0})) None) (run_ends is_in_line body m (omega (arith, more)) (omega (arith, within)))

pub no_block : (body : List ℕ) → after_close body ≡ None → IsNowhere comment_of (42 ∷ body)
no_block body none zero within = refl
no_block body none (suc n) within = ap (option_and_then (at_end (tt {0}))) (unclosed body n none)

pub no_comment : (c : ℕ) (body : List ℕ) → c ≢ 42 → c ≢ 47 → IsNowhere comment_of (c ∷ body)
no_comment c body star slash zero within = refl
no_comment c body star slash (suc n) within = by (c == 42) refl (c == 47) refl
  where
    by : (s : Bool) → (c == 42) ≡ s → (t : Bool) → (c == 47) ≡ t → cond s (option_and_then (at_end (tt {0})) (after_close (take n body))) (cond (t && list_all is_in_line (take n body)) (Some (tt {0})) None) ≡ None
    by true e t f = absurd (star (eqb-true c 42 e))
    by false e true f = absurd (slash (eqb-true c 47 f))
    by false e false f = refl

pub no_text : (text : List ℕ) → length text ≡ 0 → IsNowhere comment_of text
no_text [] e zero within = refl
no_text [] e (suc n) within = absurd (omega arith)
no_text (c ∷ rest) e n within = absurd (omega arith)
