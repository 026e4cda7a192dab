-- The place of an element in a list, and so the number of a path among others.
use Rattle.std.proofs.Common.{◌≡◌, ℕ, suc, ◌+◌, ◌<◌, ◌≤◌, Bool, true, false, not, cond, nat_lt, List, [], ◌∷◌, ◌++◌, length, slice_get, Option, Some, None, refl, sym, ap, ◌∙◌, subst, arith, length-append}
use Rattle.std.specs.Prelude.{◌||◌}
use Rattle.std.specs.List.{list_any, position, position_or_len}
use Rattle.std.proofs.lemmas.Bool.{ltb-true, ltb-false, lt-ltb}
use Rattle.trace_types.specs.declared.path.Path.{Path as AttributePath}
use Rattle.trace_types.specs.Same.{same_path}
use Rattle.trace_types.proofs.Same.{path_is, path_itself}
use Rattle.attribute_tree.specs.Numbered.{number_among}

one-add : (n : ℕ) → 1 + n ≡ suc n
one-add n = omega arith

-- what stands at the first place where a comparison that tells all apart holds
module _ {A : Type 0} (same : A → A → Bool) (is : (x y : A) → same x y ≡ true → x ≡ y) where
  place_stands : (xs : List A) (x : A) → position_or_len (same x) xs < length xs → slice_get xs (position_or_len (same x) xs) ≡ Some x
  place_stands [] x h = absurd (omega arith)
  place_stands (y ∷ ys) x h = by (same x y) refl h (place_stands ys x)
    where
      by : (b : Bool) → same x y ≡ b → cond (not b) (1 + position_or_len (same x) ys) 0 < suc (length ys) → (position_or_len (same x) ys < length ys → slice_get ys (position_or_len (same x) ys) ≡ Some x)
          → slice_get (y ∷ ys) (cond (not b) (1 + position_or_len (same x) ys) 0) ≡ Some x
      by true e h rest = ap Some (sym (is x y e))
      by false e h rest = rw one-add (rest (omega arith))

  pub position_stands : (xs : List A) (x : A) (n : ℕ) → position (same x) xs ≡ Some n → slice_get xs n ≡ Some x
  position_stands xs x n e = by (nat_lt (position_or_len (same x) xs) (length xs)) refl e
    where
      by : (b : Bool) → nat_lt (position_or_len (same x) xs) (length xs) ≡ b → cond b (Some (position_or_len (same x) xs)) None ≡ Some n → slice_get xs n ≡ Some x
      by true l e = let here : position_or_len (same x) xs ≡ n = cc in subst (λ i. slice_get xs i ≡ Some x) here (place_stands xs x (ltb-true _ _ l))
      by false l e = absurd (cc)

-- ---- the first place where a test passes
module _ {A : Type 0} (test : A → Bool) where
  place_within : (xs : List A) → position_or_len test xs ≤ length xs
  place_within [] = omega arith
  place_within (x ∷ xs) = by (test x) (place_within xs)
    where
      by : (b : Bool) → position_or_len test xs ≤ length xs → cond (not b) (1 + position_or_len test xs) 0 ≤ suc (length xs)
      by true h = omega arith
      by false h = omega (arith, h)

  pub position_place : (xs : List A) (n : ℕ) → position test xs ≡ Some n → (position_or_len test xs ≡ n) × (n < length xs)
  position_place xs n e = by (nat_lt (position_or_len test xs) (length xs)) refl e
    where
      by : (b : Bool) → nat_lt (position_or_len test xs) (length xs) ≡ b → cond b (Some (position_or_len test xs)) None ≡ Some n → (position_or_len test xs ≡ n) × (n < length xs)
      by true is e = let same : position_or_len test xs ≡ n = cc in (same, omega (arith, same, ltb-true _ _ is))
      by false is e = absurd (cc)

  no_position : (xs : List A) → position test xs ≡ None → position_or_len test xs ≡ length xs
  no_position xs e = by (nat_lt (position_or_len test xs) (length xs)) refl e
    where
      by : (b : Bool) → nat_lt (position_or_len test xs) (length xs) ≡ b → cond b (Some (position_or_len test xs)) None ≡ None → position_or_len test xs ≡ length xs
      by true is e = absurd (cc)
      by false is e = omega (arith, ltb-false _ _ is, place_within xs)

  place_position : (xs : List A) → position_or_len test xs < length xs → position test xs ≡ Some (position_or_len test xs)
  place_position xs h = rw (lt-ltb _ _ h) refl

  end_position : (xs : List A) → position_or_len test xs ≡ length xs → position test xs ≡ None
  end_position xs h = by (nat_lt (position_or_len test xs) (length xs)) refl
    where
      by : (b : Bool) → nat_lt (position_or_len test xs) (length xs) ≡ b → cond b (Some (position_or_len test xs)) None ≡ None
      by true is = absurd (omega (arith, ltb-true _ _ is, h))
      by false is = refl

  -- ---- whether there is such a place
  end_any : (xs : List A) → position_or_len test xs ≡ length xs → list_any test xs ≡ false
  end_any [] h = refl
  end_any (x ∷ xs) h = by (test x) h (end_any xs)
    where
      by : (b : Bool) → cond (not b) (1 + position_or_len test xs) 0 ≡ suc (length xs) → (position_or_len test xs ≡ length xs → list_any test xs ≡ false) → (b || list_any test xs) ≡ false
      by true h rest = absurd (omega (arith, h))
      by false h rest = rest (omega (arith, h))

  any_end : (xs : List A) → list_any test xs ≡ false → position_or_len test xs ≡ length xs
  any_end [] h = refl
  any_end (x ∷ xs) h = by (test x) h (any_end xs)
    where
      by : (b : Bool) → (b || list_any test xs) ≡ false → (list_any test xs ≡ false → position_or_len test xs ≡ length xs) → cond (not b) (1 + position_or_len test xs) 0 ≡ suc (length xs)
      by true h rest = absurd (cc)
      by false h rest = omega (arith, rest h)

  pub none_any : (xs : List A) → position test xs ≡ None → list_any test xs ≡ false
  none_any xs e = end_any xs (no_position xs e)

  pub any_none : (xs : List A) → list_any test xs ≡ false → position test xs ≡ None
  any_none xs h = end_position xs (any_end xs h)

  pub some_any : (xs : List A) (n : ℕ) → position test xs ≡ Some n → list_any test xs ≡ true
  some_any xs n e = by (list_any test xs) refl
    where
      by : (b : Bool) → list_any test xs ≡ b → b ≡ true
      by true h = refl
      by false h = let none : position test xs ≡ None = any_none xs h in absurd (cc)

  -- ---- the place once one more element is added
  place_kept : (xs : List A) (y : A) → position_or_len test xs < length xs → position_or_len test (xs ++ y ∷ []) ≡ position_or_len test xs
  place_kept [] y h = absurd (omega arith)
  place_kept (x ∷ xs) y h = by (test x) h (place_kept xs y)
    where
      by : (b : Bool) → cond (not b) (1 + position_or_len test xs) 0 < suc (length xs) → (position_or_len test xs < length xs → position_or_len test (xs ++ y ∷ []) ≡ position_or_len test xs)
          → cond (not b) (1 + position_or_len test (xs ++ y ∷ [])) 0 ≡ cond (not b) (1 + position_or_len test xs) 0
      by true h rest = refl
      by false h rest = ap (λ n. 1 + n) (rest (omega (arith, h)))

  place_new : (xs : List A) (y : A) (b : Bool) → test y ≡ b → position_or_len test xs ≡ length xs → position_or_len test (xs ++ y ∷ []) ≡ length xs + cond (not b) 1 0
  place_new [] y b e h = rw e (by b)
    where
      by : (b : Bool) → cond (not b) (1 + 0) 0 ≡ 0 + cond (not b) 1 0
      by true = refl
      by false = refl
  place_new (x ∷ xs) y b e h = by (test x) h (place_new xs y b e)
    where
      by : (s : Bool) → cond (not s) (1 + position_or_len test xs) 0 ≡ suc (length xs) → (position_or_len test xs ≡ length xs → position_or_len test (xs ++ y ∷ []) ≡ length xs + cond (not b) 1 0)
          → cond (not s) (1 + position_or_len test (xs ++ y ∷ [])) 0 ≡ suc (length xs) + cond (not b) 1 0
      by true h rest = absurd (omega (arith, h))
      by false h rest = omega (arith, rest (omega (arith, h)))

  -- an element that doesn't pass changes nothing
  pub position_other : (xs : List A) (y : A) → test y ≡ false → position test (xs ++ y ∷ []) ≡ position test xs
  position_other xs y e = by (position test xs) refl
    where
      by : (o : Option ℕ) → position test xs ≡ o → position test (xs ++ y ∷ []) ≡ o
      by None h = end_position (xs ++ y ∷ []) (place_new xs y false e (no_position xs h) ∙ sym (length-append xs (y ∷ [])))
      by (Some n) h =
          let place = position_place xs n h in
          let here : position_or_len test (xs ++ y ∷ []) ≡ n = place_kept xs y (omega (arith, place.0, place.1)) ∙ place.0 in
          place_position (xs ++ y ∷ []) (omega (arith, here, place.1, length-append xs (y ∷ []))) ∙ ap Some here

  -- the first one that passes has the place of its adding
  pub position_new : (xs : List A) (y : A) → test y ≡ true → position test xs ≡ None → position test (xs ++ y ∷ []) ≡ Some (length xs)
  position_new xs y e h =
      let none_more : length xs + 0 ≡ length xs = omega arith in
      let here : position_or_len test (xs ++ y ∷ []) ≡ length xs = place_new xs y true e (no_position xs h) ∙ none_more in
      place_position (xs ++ y ∷ []) (omega (arith, here, length-append xs (y ∷ []))) ∙ ap Some here

-- ---- numbers of paths
-- the path of a number stands at its place
pub number_stands : (paths : List AttributePath) (p : AttributePath) (n : ℕ) → number_among paths p ≡ Some n → slice_get paths n ≡ Some p
number_stands paths p n e = position_stands same_path path_is paths p n e

-- a number is a path's place, and a path without one has the place after all
pub number_place : (paths : List AttributePath) (p : AttributePath) (n : ℕ) → number_among paths p ≡ Some n → (position_or_len (same_path p) paths ≡ n) × (n < length paths)
number_place paths p n e = position_place (same_path p) paths n e

pub no_number : (paths : List AttributePath) (p : AttributePath) → number_among paths p ≡ None → position_or_len (same_path p) paths ≡ length paths
no_number paths p e = no_position (same_path p) paths e

-- a place before the end is a number
pub place_number : (paths : List AttributePath) (p : AttributePath) → position_or_len (same_path p) paths < length paths → number_among paths p ≡ Some (position_or_len (same_path p) paths)
place_number paths p h = place_position (same_path p) paths h

pub end_number : (paths : List AttributePath) (p : AttributePath) → position_or_len (same_path p) paths ≡ length paths → number_among paths p ≡ None
end_number paths p h = end_position (same_path p) paths h

pub apart : (p q : AttributePath) → (p ≡ q → ⊥) → same_path p q ≡ false
apart p q h = by (same_path p q) refl
  where
    by : (b : Bool) → same_path p q ≡ b → b ≡ false
    by true e = absurd (h (path_is p q e))
    by false e = refl

-- a path that is added has the number of paths before it, and each other keeps its number
pub number_push : (xs : List AttributePath) (p q : AttributePath) → number_among xs p ≡ None → number_among (xs ++ p ∷ []) q ≡ cond (same_path p q) (Some (length xs)) (number_among xs q)
number_push xs p q new = by (same_path p q) refl
  where
    differ : same_path p q ≡ false → q ≡ p → ⊥
    differ e same = let k : same_path p q ≡ true = subst (λ x. same_path p x ≡ true) (sym same) (path_itself p) in absurd (cc)

    by : (b : Bool) → same_path p q ≡ b → number_among (xs ++ p ∷ []) q ≡ cond b (Some (length xs)) (number_among xs q)
    by true e = subst (λ x. number_among (xs ++ p ∷ []) x ≡ Some (length xs)) (path_is p q e) (position_new (same_path p) xs p (path_itself p) new)
    by false e = position_other (same_path q) xs p (apart q p (differ e))
