-- Where the first byte of a kind stands, the text is cut.
use Rattle.std.proofs.Common.{◌≡◌, ◌≢◌, ℕ, zero, suc, ◌+◌, ◌-◌, ◌<◌, ◌≤◌, Bool, true, false, not, cond, List, [], ◌∷◌, ◌++◌, length, take, drop, Some, None, refl, sym, ap, ap₂, ◌∙◌, subst, arith, nat_lt}
use Rattle.std.specs.Prelude.{◌==◌}
use Rattle.std.specs.List.{AllByRecursion, position, position_or_len}
use Rattle.std.proofs.lemmas.Bool.{ltb-true, ltb-false}
use Rattle.std.proofs.lemmas.List.{take_rest}

module _ (end : ℕ) where
  abbrev is_end : ℕ → Bool
  is_end b = b == end

  record IsCut (xs : List ℕ) (i : ℕ) : Type 0 where
    whole : xs ≡ take i xs ++ end ∷ drop (suc i) xs
    apart : AllByRecursion (λ b. b ≢ end) (take i xs)

  differs : (b : ℕ) → is_end b ≡ false → b ≢ end
  differs b e same = let h : (b == b) ≡ false = subst (λ n. (b == n) ≡ false) (sym same) e in grind arith

  cut : (xs : List ℕ) (i : ℕ) → position_or_len is_end xs ≡ i → i < length xs → IsCut xs i
  cut [] i e h = absurd (omega arith)
  cut (x ∷ xs) i e h = by (is_end x) refl i e h (cut xs)
    where
      by : (b : Bool) → is_end x ≡ b → (i : ℕ) → cond (not b) (1 + position_or_len is_end xs) 0 ≡ i → i < suc (length xs) → ((i : ℕ) → position_or_len is_end xs ≡ i → i < length xs → IsCut xs i) → IsCut (x ∷ xs) i
      by true is zero e h rest = let same : x ≡ end = grind arith in record { whole = ap (λ y. y ∷ xs) same; apart = tt }
      by true is (suc i) e h rest = absurd (omega arith)
      by false is zero e h rest = absurd (omega arith)
      by false is (suc i) e h rest = let r = rest i (omega arith) (omega arith) in record { whole = ap (λ l. x ∷ l) r.whole; apart = (differs x is, r.apart) }

  none : (xs : List ℕ) → length xs ≤ position_or_len is_end xs → AllByRecursion (λ b. b ≢ end) xs
  none [] h = tt
  none (x ∷ xs) h = by (is_end x) refl h (none xs)
    where
      by : (b : Bool) → is_end x ≡ b → suc (length xs) ≤ cond (not b) (1 + position_or_len is_end xs) 0 → (length xs ≤ position_or_len is_end xs → AllByRecursion (λ b. b ≢ end) xs) → AllByRecursion (λ b. b ≢ end) (x ∷ xs)
      by true is h rest = absurd (omega arith)
      by false is h rest = (differs x is, rest (omega arith))

  pub found : (xs : List ℕ) (i : ℕ) → Some i ≡ position is_end xs → (xs ≡ take i xs ++ end ∷ take (length xs - (i + 1)) (drop (i + 1) xs)) × AllByRecursion (λ b. b ≢ end) (take i xs)
  found xs i e = by (nat_lt (position_or_len is_end xs) (length xs)) refl e
    where
      by : (b : Bool) → nat_lt (position_or_len is_end xs) (length xs) ≡ b → Some i ≡ cond b (Some (position_or_len is_end xs)) None → (xs ≡ take i xs ++ end ∷ take (length xs - (i + 1)) (drop (i + 1) xs)) × AllByRecursion (λ b. b ≢ end) (take i xs)
      by true is e =
          let same : position_or_len is_end xs ≡ i = cc in
          let r = cut xs i same (omega (arith, same, ltb-true _ _ is)) in
          let next : suc i ≡ i + 1 = omega arith in
          (r.whole ∙ ap (λ l. take i xs ++ end ∷ l) (ap (λ n. drop n xs) next ∙ sym (take_rest xs (i + 1))), r.apart)
      by false is e = absurd (cc)

  pub not_found : (xs : List ℕ) → None ≡ position is_end xs → AllByRecursion (λ b. b ≢ end) xs
  not_found xs e = by (nat_lt (position_or_len is_end xs) (length xs)) refl e
    where
      by : (b : Bool) → nat_lt (position_or_len is_end xs) (length xs) ≡ b → None ≡ cond b (Some (position_or_len is_end xs)) None → AllByRecursion (λ b. b ≢ end) xs
      by true is e = absurd (cc)
      by false is e = none xs (ltb-false _ _ is)

  -- a text has one front before the first of these bytes
  pub same_front : (xs ys a b : List ℕ) → AllByRecursion (λ b. b ≢ end) xs → AllByRecursion (λ b. b ≢ end) ys → xs ++ end ∷ a ≡ ys ++ end ∷ b → (xs ≡ ys) × (a ≡ b)
  same_front [] [] a b h g e = (refl, cc)
  same_front [] (y ∷ ys) a b h g e = absurd (g.0 (cc))
  same_front (x ∷ xs) [] a b h g e = absurd (h.0 (cc))
  same_front (x ∷ xs) (y ∷ ys) a b h g e = let more = same_front xs ys a b h.1 g.1 (cc) in (ap₂ (λ z zs. z ∷ zs) (cc) more.0, more.1)

  pub has_end : (xs a : List ℕ) → AllByRecursion (λ b. b ≢ end) (xs ++ end ∷ a) → ⊥
  has_end [] a h = h.0 refl
  has_end (x ∷ xs) a h = has_end xs a h.1
