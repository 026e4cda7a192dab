-- The front of a list, with one item more.
use Rattle.std.proofs.Common.{◌≡◌, ◌∙◌, ◌+◌, ℕ, zero, suc, List, [], ◌∷◌, ◌++◌, Some, slice_get, drop, length, take, sym, ap, arith}
use Rattle.std.proofs.Math.Seq.{drop-append_seam, take-append_seam}

add-one : (n : ℕ) → n + 1 ≡ suc n
add-one n = omega arith

front : {A : Type 0} (xs : List A) (n : ℕ) (x : A) → slice_get xs n ≡ Some x → take (suc n) xs ≡ take n xs ++ x ∷ []
front [] n x e = absurd (cc)
front (y ∷ ys) zero x e = let same : y ≡ x = cc in ap (λ z. z ∷ []) same
front (y ∷ ys) (suc n) x e = ap (λ l. y ∷ l) (front ys n x e)

pub next_taken : {A : Type 0} (xs : List A) (n : ℕ) (x : A) → slice_get xs n ≡ Some x → take (n + 1) xs ≡ take n xs ++ x ∷ []
next_taken xs n x e = rw (add-one n) (front xs n x e)

-- so many in front, and the others
pub is_front : {A : Type 0} (first others whole : List A) (n : ℕ) → first ++ others ≡ whole → length first ≡ n → first ≡ take n whole
is_front first others whole n e size = sym (take-append_seam first others) ∙ (ap (λ m. take m (first ++ others)) size ∙ ap (take n) e)

pub are_others : {A : Type 0} (first others whole : List A) (n : ℕ) → first ++ others ≡ whole → length first ≡ n → others ≡ drop n whole
are_others first others whole n e size = sym (drop-append_seam first others) ∙ (ap (λ m. drop m (first ++ others)) size ∙ ap (drop n) e)
