-- The numbers below a bound that pass a test, and lists made of them.
use Rattle.std.proofs.Common.{◌≡◌, ◌+◌, ℕ, zero, suc, Bool, true, false, cond, List, [], ◌∷◌, ◌++◌, filter, refl, ap, ap₂, ◌∙◌, arith, add-one}
use Rattle.std.specs.List.{flat_map, range_with_len}
use Rattle.std.proofs.lemmas.Grind.{flat_map-append}
use Rattle.std.proofs.lemmas.List.{append-nil}
use Rattle.std.proofs.lemmas.List.Elements.{filter-append}

range_more : (a n : ℕ) → range_with_len a (suc n) ≡ range_with_len a n ++ (a + n) ∷ []
range_more a zero = let e : a ≡ a + 0 = omega arith in ap (λ x. x ∷ []) e
range_more a (suc n) = let e : a + 1 + n ≡ a + suc n = omega arith in ap (λ l. a ∷ l) (range_more (a + 1) n) ∙ ap (λ x. a ∷ (range_with_len (a + 1) n ++ x ∷ [])) e

below_more : (p : ℕ → Bool) (n : ℕ) → filter p (range_with_len 0 (n + 1)) ≡ filter p (range_with_len 0 n) ++ filter p (n ∷ [])
below_more p n = let e : 0 + n ≡ n = omega arith in ap (λ k. filter p (range_with_len 0 k)) (add-one n) ∙ (ap (filter p) (range_more 0 n ∙ ap (λ x. range_with_len 0 n ++ x ∷ []) e) ∙ filter-append p (range_with_len 0 n) (n ∷ []))

pub below_yes : (p : ℕ → Bool) (n : ℕ) → p n ≡ true → filter p (range_with_len 0 (n + 1)) ≡ filter p (range_with_len 0 n) ++ n ∷ []
below_yes p n e = below_more p n ∙ ap (λ b. filter p (range_with_len 0 n) ++ (cond b (n ∷ []) [])) e

pub below_no : (p : ℕ → Bool) (n : ℕ) → p n ≡ false → filter p (range_with_len 0 (n + 1)) ≡ filter p (range_with_len 0 n)
below_no p n e = below_more p n ∙ (ap (λ b. filter p (range_with_len 0 n) ++ (cond b (n ∷ []) [])) e ∙ append-nil (filter p (range_with_len 0 n)))

-- lists that agree where the test passes
pub flat_same : {X : Type 0} (f g : ℕ → List X) (p : ℕ → Bool) (xs : List ℕ) → ((x : ℕ) → p x ≡ true → f x ≡ g x) → flat_map f (filter p xs) ≡ flat_map g (filter p xs)
flat_same f g p [] same = refl
flat_same {X} f g p (x ∷ xs) same = by (p x) (same x) (flat_same f g p xs same)
  where
    by : (b : Bool) → (b ≡ true → f x ≡ g x) → flat_map f (filter p xs) ≡ flat_map g (filter p xs) → flat_map f (cond b (x ∷ filter p xs) (filter p xs)) ≡ flat_map g (cond b (x ∷ filter p xs) (filter p xs))
    by true here rest = ap₂ (λ a b. a ++ b) (here refl) rest
    by false here rest = rest

pub flat_push : {X : Type 0} (f : ℕ → List X) (xs : List ℕ) (x : ℕ) → flat_map f (xs ++ x ∷ []) ≡ flat_map f xs ++ f x
flat_push f xs x = flat_map-append f xs (x ∷ []) ∙ ap (λ l. flat_map f xs ++ l) (append-nil (f x))
