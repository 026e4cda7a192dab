-- How far a text passes a test.
use Rattle.std.proofs.Common.{◌≡◌, ℕ, zero, suc, ◌+◌, ◌<◌, ◌≤◌, Bool, true, false, not, cond, List, [], ◌∷◌, length, take, drop, get_or, Option, Some, None, refl, ap, ◌∙◌, subst, arith, nat_lt, MatchOption, IfSome}
use Rattle.std.specs.List.{position, position_or_len, list_all}
use Rattle.std.specs.Option.{unwrap_or}
use Rattle.std.proofs.lemmas.Bool.{ltb-false}
use Rattle.std.proofs.lemmas.List.Sums.{prefix_len-le-length}

pub one_plus : (n : ℕ) → 1 + n ≡ suc n
one_plus n = omega arith

-- a text by its first byte
pub by_first : (text : List ℕ) (c : ℕ) → 0 < length text → get_or text 0 0 ≡ c → text ≡ c ∷ drop 1 text
by_first [] c some is = absurd (omega arith)
by_first (a ∷ text) c some is = ap (λ x. x ∷ text) is

module _ (other : ℕ → Bool) where
  abbrev len : List ℕ → ℕ
  len xs = position_or_len other xs

  pub len_within : (xs : List ℕ) → len xs ≤ length xs
  len_within xs = prefix_len-le-length (λ x. not (other x)) xs

  -- the first that doesn't pass, or the end
  pub first_or_end : (xs : List ℕ) → unwrap_or (position other xs) (length xs) ≡ len xs
  first_or_end xs = by (nat_lt (len xs) (length xs)) refl
    where
      by : (b : Bool) → nat_lt (len xs) (length xs) ≡ b → unwrap_or (cond b (Some (len xs)) None) (length xs) ≡ len xs
      by true e = refl
      by false e = let over = ltb-false (len xs) (length xs) e in let within = len_within xs in omega arith

module _ (passes : ℕ → Bool) where
  abbrev run : List ℕ → ℕ
  run xs = position_or_len (λ c. not (passes c)) xs

  -- all before it pass
  pub run_passes : (xs : List ℕ) → list_all passes (take (run xs) xs) ≡ true
  run_passes [] = refl
  run_passes (x ∷ xs) = by (passes x) refl (run_passes xs)
    where
      by : (b : Bool) → passes x ≡ b → list_all passes (take (run xs) xs) ≡ true → list_all passes (take (cond (not (not b)) (1 + run xs) 0) (x ∷ xs)) ≡ true
      by true e rest = ap (λ k. list_all passes (take k (x ∷ xs))) (one_plus (run xs)) ∙ rw e rest
      by false e rest = refl

  -- a longer front has one that doesn't
  pub run_ends : (xs : List ℕ) (n : ℕ) → run xs < n → n ≤ length xs → list_all passes (take n xs) ≡ false
  run_ends [] n more within = absurd (omega arith)
  run_ends (x ∷ xs) zero more within = absurd (omega arith)
  run_ends (x ∷ xs) (suc n) more within = by (passes x) refl more (run_ends xs n)
    where
      by : (b : Bool) → passes x ≡ b → cond (not (not b)) (1 + run xs) 0 < suc n → (run xs < n → n ≤ length xs → list_all passes (take n xs) ≡ false) → list_all passes (take (suc n) (x ∷ xs)) ≡ false
      by true e more rest = rw e (rest (omega arith) (omega (arith, within)))
      by false e more rest = rw e refl

  -- where a front ends before it, one that passes follows
  pub run_goes_on : (xs : List ℕ) (n d : ℕ) → n < run xs → passes (get_or xs n d) ≡ true
  run_goes_on [] n d less = absurd (omega arith)
  run_goes_on (x ∷ xs) zero d less = by (passes x) refl less
    where
      by : (b : Bool) → passes x ≡ b → 0 < cond (not (not b)) (1 + run xs) 0 → passes x ≡ true
      by true e less = e
      by false e less = absurd (omega arith)
  run_goes_on (x ∷ xs) (suc n) d less = by (passes x) less (run_goes_on xs n d)
    where
      by : (b : Bool) → suc n < cond (not (not b)) (1 + run xs) 0 → (n < run xs → passes (get_or xs n d) ≡ true) → passes (get_or xs n d) ≡ true
      by true less rest = rest (omega arith)
      by false less rest = absurd (omega arith)

  -- and after it none does
  pub run_stops : (xs : List ℕ) (d : ℕ) → passes d ≡ false → passes (get_or xs (run xs) d) ≡ false
  run_stops [] d none = none
  run_stops (x ∷ xs) d none = by (passes x) refl (run_stops xs d none)
    where
      by : (b : Bool) → passes x ≡ b → passes (get_or xs (run xs) d) ≡ false → passes (get_or (x ∷ xs) (cond (not (not b)) (1 + run xs) 0) d) ≡ false
      by true e rest = ap (λ k. passes (get_or (x ∷ xs) k d)) (one_plus (run xs)) ∙ rest
      by false e rest = e

-- what is said of an option, where it is known which one it is
pub at_none : {A : Type 0} (N : Type 0) (S : A → Type 0) (o : Option A) → o ≡ None → MatchOption o N S → N
at_none N S None e h = h
at_none N S (Some x) e h = absurd (cc)

pub at_some : {A : Type 0} (N : Type 0) (S : A → Type 0) (o : Option A) (x : A) → o ≡ Some x → MatchOption o N S → S x
at_some N S None x e h = absurd (cc)
at_some N S (Some y) x e h = let same : y ≡ x = cc in subst S same h

pub if_some : {A : Type 0} (S : A → Type 0) (o : Option A) (x : A) → o ≡ Some x → IfSome o S → S x
if_some S None x e h = absurd (cc)
if_some S (Some y) x e h = let same : y ≡ x = cc in subst S same h
