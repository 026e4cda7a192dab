-- What holds of every item of a list.
use Rattle.std.proofs.Common.{◌≡◌, ℕ, ◌<◌, Bool, true, false, ◌&&◌, nat_lt, List, [], ◌∷◌, ◌++◌, refl}
use Rattle.std.specs.List.{AllByRecursion}
use Rattle.std.proofs.lemmas.Bool.{ltb-true}

module _ {A : Type 0} where
  pub all_weaker : (P Q : A → Type 0) (xs : List A) → ((x : A) → P x → Q x) → AllByRecursion P xs → AllByRecursion Q xs
  all_weaker P Q [] f h = tt
  all_weaker P Q (x ∷ xs) f h = (f x h.0, all_weaker P Q xs f h.1)

  pub all_both : (P : A → Type 0) (xs ys : List A) → AllByRecursion P xs → AllByRecursion P ys → AllByRecursion P (xs ++ ys)
  all_both P [] ys h g = g
  all_both P (x ∷ xs) ys h g = (h.0, all_both P xs ys h.1 g)

-- whether all bytes are greater than a space
abbrev pub is_visible : List ℕ → Bool
is_visible [] = true
is_visible (b ∷ bs) = nat_lt 32 b && is_visible bs

pub visible : (bs : List ℕ) → is_visible bs ≡ true → AllByRecursion (λ b. 32 < b) bs
visible [] h = tt
visible (b ∷ bs) h = by (nat_lt 32 b) refl h (visible bs)
  where
    by : (k : Bool) → nat_lt 32 b ≡ k → (k && is_visible bs) ≡ true → (is_visible bs ≡ true → AllByRecursion (λ b. 32 < b) bs) → (32 < b) × AllByRecursion (λ b. 32 < b) bs
    by true e h rest = (ltb-true 32 b e, rest h)
    by false e h rest = absurd (cc)
