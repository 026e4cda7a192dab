-- The number of binary digits, and the counts of it.
use Rattle.std.proofs.Common.{◌≡◌, ◌≢◌, ◌∙◌, ◌⊎◌, inl, inr, ℕ, zero, suc, ◌+◌, ◌-◌, ◌*◌, ◌^◌, ◌<◌, ◌≤◌, Bool, true, false, cond, not, ◌&&◌, nat_lt, List, [], ◌∷◌, ◌++◌, length, map, get_or, slice_set, refl, sym, ap, ap₂, arith, add-zero, eq-eqb, ne_eqb}
use Rattle.std.specs.Prelude.{◌==◌, count_by}
use Rattle.std.specs.List.{AllByRecursion, range_with_len}
use Rattle.std.proofs.lemmas.Bool.{cases_order, lt-ltb, le-ltb}
use Rattle.std.proofs.lemmas.List.Sums.{sum_by_push}
use Rattle.std.proofs.Math.Nat.{pow-suc, one-le-pow, pow-le-pow_right}
use lib.Count.{count_leading_zeros, leading_length}
use Rattle.disk_requests.specs.Devices.{has_digits}
use Rattle.disk_requests.specs.Steps.{counted}

pow_le : (i j : ℕ) → i ≤ j → 2 ^ i ≤ 2 ^ j
pow_le i j h = pow-le-pow_right (omega arith) h

-- a number that has m digits has no other number of them
pub has_only : (k m n : ℕ) → n < 2 ^ m → 2 ^ m ≤ 2 * n + 1 → has_digits k n ≡ (k == m)
has_only zero zero n low high = let e : n ≡ 0 = omega (arith, low) in eq-eqb n 0 e
has_only zero (suc m) n low high =
    let p = pow-suc 2 m in
    let q = one-le-pow m 2 (omega arith) in
    ne_eqb n 0 (λ e. omega (arith, p, q, e, high)) ∙ sym (ne_eqb zero (suc m) (λ e. omega (arith, e)))
has_only (suc k) m n low high = by (cases_order (suc k) m)
  where
    by : (suc k ≡ m) ⊎ ((suc k < m) ⊎ (m < suc k)) → has_digits (suc k) n ≡ (suc k == m)
    by (inl e) =
        let p = pow-suc 2 k in
        let q = ap (λ x. 2 ^ x) e in
        let over : 2 ^ k ≤ n = omega (arith, p, q, high) in
        let below : n < 2 ^ suc k = omega (arith, q, low) in
        ap₂ (λ a b. not a && b) (le-ltb n (2 ^ k) over) (lt-ltb n (2 ^ suc k) below) ∙ sym (eq-eqb (suc k) m e)
    by (inr (inl less)) =
        let p = pow_le (suc (suc k)) m less in
        let q = pow-suc 2 (suc k) in
        let over : 2 ^ suc k ≤ n = omega (arith, p, q, high) in
        ap₂ (λ a b. a && b) refl (le-ltb n (2 ^ suc k) over) ∙ (at_end (not (nat_lt n (2 ^ k))) ∙ sym (ne_eqb (suc k) m (λ e. omega (arith, e, less))))
      where
        at_end : (b : Bool) → (b && false) ≡ false
        at_end true = refl
        at_end false = refl
    by (inr (inr more)) =
        let p = pow_le m k (omega (arith, more)) in
        let below : n < 2 ^ k = omega (arith, p, low) in
        ap (λ a. not a && nat_lt n (2 ^ suc k)) (lt-ltb n (2 ^ k) below) ∙ sym (ne_eqb (suc k) m (λ e. omega (arith, e, more)))

-- the number of digits that the machine tells
only_place : (n : ℕ) → n < 2 ^ 64 → (k : ℕ) → has_digits k n ≡ (k == 64 - count_leading_zeros 64 n)
only_place n fits k =
    let l = leading_length 64 n fits in
    let e : l.0 ≡ 64 - count_leading_zeros 64 n = omega (arith, l.1) in
    has_only k l.0 n l.2 l.3 ∙ ap (λ m. k == m) e

-- ---- one more at a place
counted_past : (k : ℕ) (ns : List ℕ) (n m : ℕ) → ((j : ℕ) → has_digits j n ≡ (j == m)) → k + length ns ≤ m ⊎ (m < k) → ns ≡ counted k ns n
counted_past k [] n m only past = refl
counted_past k (x ∷ xs) n m only past =
    ap₂ (λ a b. a ∷ b) (sym (ap (λ b. x + cond b 1 0) (only k ∙ ne_eqb k m (apart past)) ∙ add-zero x)) (counted_past (k + 1) xs n m only (rest past))
  where
    apart : k + length (x ∷ xs) ≤ m ⊎ (m < k) → k ≢ m
    apart (inl h) e = omega (arith, h, e)
    apart (inr h) e = omega (arith, h, e)

    rest : k + length (x ∷ xs) ≤ m ⊎ (m < k) → (k + 1) + length xs ≤ m ⊎ (m < k + 1)
    rest (inl h) = inl (omega (arith, h))
    rest (inr h) = inr (omega (arith, h))

counted_there : (k : ℕ) (ns : List ℕ) (n i m : ℕ) → ((j : ℕ) → has_digits j n ≡ (j == m)) → m ≡ k + i → i < length ns → slice_set ns i (get_or ns i 0 + 1) ≡ counted k ns n
counted_there k [] n i m only at h = absurd (omega (arith, h))
counted_there k (x ∷ xs) n zero m only at h =
    ap₂ (λ a b. a ∷ b) (sym (ap (λ b. x + cond b 1 0) (only k ∙ eq-eqb k m (omega (arith, at))))) (counted_past (k + 1) xs n m only (inr (omega (arith, at))))
counted_there k (x ∷ xs) n (suc i) m only at h =
    ap₂ (λ a b. a ∷ b) (sym (ap (λ b. x + cond b 1 0) (only k ∙ ne_eqb k m (λ e. omega (arith, e, at))) ∙ add-zero x)) (counted_there (k + 1) xs n i m only (omega (arith, at)) (omega (arith, h)))

pub place_counted : (ns : List ℕ) (n : ℕ) → n < 2 ^ 64 → 64 - count_leading_zeros 64 n < length ns → slice_set ns (64 - count_leading_zeros 64 n) (get_or ns (64 - count_leading_zeros 64 n) 0 + 1) ≡ counted 0 ns n
place_counted ns n fits h = counted_there 0 ns n (64 - count_leading_zeros 64 n) (64 - count_leading_zeros 64 n) (only_place n fits) (omega arith) h

pub place_past : (ns : List ℕ) (n : ℕ) → n < 2 ^ 64 → length ns ≤ 64 - count_leading_zeros 64 n → ns ≡ counted 0 ns n
place_past ns n fits h = counted_past 0 ns n (64 - count_leading_zeros 64 n) (only_place n fits) (inl (omega (arith, h)))

-- ---- what is counted of a list, and of one more
pub counted_all : (k len : ℕ) (xs : List ℕ) (n : ℕ) → counted k (map (λ j. count_by (has_digits j) xs) (range_with_len k len)) n ≡ map (λ j. count_by (has_digits j) (xs ++ n ∷ [])) (range_with_len k len)
counted_all k zero xs n = refl
counted_all k (suc len) xs n = ap₂ (λ a b. a ∷ b) (sym (sum_by_push (λ x. cond (has_digits k x) 1 0) xs n)) (counted_all (k + 1) len xs n)

-- no count is more than the number of events
pub counted_small : (k : ℕ) (ns : List ℕ) (n most : ℕ) → AllByRecursion (λ c. c ≤ most) ns → AllByRecursion (λ c. c ≤ most + 1) (counted k ns n)
counted_small k [] n most h = tt
counted_small k (x ∷ xs) n most h = (one (has_digits k n), counted_small (k + 1) xs n most h.1)
  where
    one : (b : Bool) → x + cond b 1 0 ≤ most + 1
    one true = omega (arith, h.0)
    one false = omega (arith, h.0)
