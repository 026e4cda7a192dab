-- How many numbers of a range pass a test.
use Rattle.std.proofs.Common.{◌≡◌, ℕ, zero, suc, ◌+◌, ◌<◌, ◌≤◌, Bool, true, false, cond, if◌then◌else◌, List, [], ◌∷◌, refl, sym, ap, ap₂, ◌∙◌, arith}
use Rattle.std.specs.Prelude.{count_by}
use Rattle.std.specs.List.{range_with_len}
use Rattle.std.proofs.lemmas.List.Sums.{sum_by-append}

-- one after the other
pub count_cons : {A : Type 0} (p : A → Bool) (x : A) (xs : List A) → count_by p (x ∷ xs) ≡ (if p x then 1 else 0) + count_by p xs
count_cons p x xs = let e = sum_by-append (λ y. cond (p y) 1 0) (x ∷ []) xs in let z : 0 + (if p x then 1 else 0) ≡ (if p x then 1 else 0) = omega arith in e ∙ ap (λ n. n + count_by p xs) z

-- a range in two parts
pub count_split : (p : ℕ → Bool) (a m n b k : ℕ) → a + m ≡ b → m + n ≡ k → count_by p (range_with_len a k) ≡ count_by p (range_with_len a m) + count_by p (range_with_len b n)
count_split p a zero n b k at long =
    let e : a ≡ b = omega (arith, at) in
    let f : k ≡ n = omega (arith, long) in
    let g : 0 + count_by p (range_with_len b n) ≡ count_by p (range_with_len b n) = omega arith in
    ap₂ (λ x y. count_by p (range_with_len x y)) e f ∙ sym g
count_split p a (suc m) n b k at long =
    let f : k ≡ suc (m + n) = omega (arith, long) in
    let rest = count_split p (a + 1) m n b (m + n) (omega (arith, at)) refl in
    let here = count_cons p a (range_with_len (a + 1) (m + n)) in
    let first = count_cons p a (range_with_len (a + 1) m) in
    ap (λ y. count_by p (range_with_len a y)) f ∙ omega (arith, here, first, rest)

-- tests that agree on the range
pub count_same : (p q : ℕ → Bool) (a n : ℕ) → ((x : ℕ) → a ≤ x → x < a + n → p x ≡ q x) → count_by p (range_with_len a n) ≡ count_by q (range_with_len a n)
count_same p q a zero same = refl
count_same p q a (suc n) same =
    count_cons p a (range_with_len (a + 1) n)
    ∙ (ap₂ (λ b m. (if b then 1 else 0) + m) (same a (omega arith) (omega arith)) (count_same p q (a + 1) n (λ x low high. same x (omega (arith, low)) (omega (arith, high))))
    ∙ sym (count_cons q a (range_with_len (a + 1) n)))

-- a test that is always the same
pub count_constant : (b : Bool) (a n : ℕ) → count_by (λ x. b) (range_with_len a n) ≡ (if b then n else 0)
count_constant b a zero = by b
  where
    by : (b : Bool) → let none : ℕ = 0 in none ≡ (if b then 0 else 0)
    by true = refl
    by false = refl
count_constant b a (suc n) = count_cons (λ x. b) a (range_with_len (a + 1) n) ∙ by b (count_constant b (a + 1) n)
  where
    by : (b : Bool) → count_by (λ x. b) (range_with_len (a + 1) n) ≡ (if b then n else 0) → (if b then 1 else 0) + count_by (λ x. b) (range_with_len (a + 1) n) ≡ (if b then suc n else 0)
    by true e = omega (arith, e)
    by false e = omega (arith, e)
