-- The first items of a list, one after the other.
use Rattle.std.proofs.Common.{◌≡◌, ℕ, zero, suc, ◌+◌, ◌<◌, List, [], ◌∷◌, ◌++◌, length, take, get_or, sym, ap, ◌∙◌, subst, append_assoc, append-nil, arith}
use Rattle.std.specs.Prelude.{flat_map}
use Rattle.std.specs.List.{AllByRecursion}

module _ {A : Type 0} where
  pub all_at : (P : A → Type 0) (xs : List A) (i : ℕ) (d : A) → AllByRecursion P xs → i < length xs → P (get_or xs i d)
  all_at P [] i d h l = absurd (omega (arith, l))
  all_at P (x ∷ xs) zero d h l = h.0
  all_at P (x ∷ xs) (suc i) d h l = all_at P xs i d h.1 (omega (arith, l))

  take_suc : (f : A → List ℕ) (xs : List A) (i : ℕ) (d : A) → i < length xs → flat_map f (take (suc i) xs) ≡ flat_map f (take i xs) ++ f (get_or xs i d)
  take_suc f [] i d l = absurd (omega (arith, l))
  take_suc f (x ∷ xs) zero d l = append-nil (f x)
  take_suc f (x ∷ xs) (suc i) d l = ap (λ r. f x ++ r) (take_suc f xs i d (omega (arith, l))) ∙ sym (append_assoc (f x) (flat_map f (take i xs)) (f (get_or xs i d)))

  pub take_more : (f : A → List ℕ) (xs : List A) (i : ℕ) (d : A) → i < length xs → flat_map f (take (i + 1) xs) ≡ flat_map f (take i xs) ++ f (get_or xs i d)
  take_more f xs i d l = let next : i + 1 ≡ suc i = omega arith in ap (λ n. flat_map f (take n xs)) next ∙ take_suc f xs i d l

  all_suc : (P : A → Type 0) (xs : List A) (i : ℕ) (d : A) → i < length xs → AllByRecursion P (take i xs) → P (get_or xs i d) → AllByRecursion P (take (suc i) xs)
  all_suc P [] i d l h p = absurd (omega (arith, l))
  all_suc P (x ∷ xs) zero d l h p = (p, tt)
  all_suc P (x ∷ xs) (suc i) d l h p = (h.0, all_suc P xs i d (omega (arith, l)) h.1 p)

  pub all_more : (P : A → Type 0) (xs : List A) (i : ℕ) (d : A) → i < length xs → AllByRecursion P (take i xs) → P (get_or xs i d) → AllByRecursion P (take (i + 1) xs)
  all_more P xs i d l h p = let next : suc i ≡ i + 1 = omega arith in subst (λ n. AllByRecursion P (take n xs)) next (all_suc P xs i d l h p)
