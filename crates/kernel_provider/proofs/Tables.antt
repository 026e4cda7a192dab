-- Paths beside their values, as a table.
use Rattle.std.proofs.Common.{◌≡◌, ℕ, zero, suc, ◌+◌, ◌<◌, Bool, true, false, not, cond, if◌then◌else◌, List, [], ◌∷◌, ◌++◌, length, slice_get, slice_set, Option, Some, None, is_some, refl, sym, ap, ◌∙◌, arith}
use Rattle.std.specs.List.{zip, position_or_len}
use Rattle.std.specs.Map.{lookup, keys_of}
use Rattle.trace_types.specs.declared.path.Path.{Path as AttributePath}
use Rattle.trace_types.specs.declared.value.Value.{Value}
use Rattle.trace_types.specs.Same.{same_path}
use Rattle.attribute_tree.specs.Numbered.{number_among}
use Rattle.attribute_tree.proofs.Numbers.{number_place, no_number}
use Rattle.kernel_provider.specs.Steps.{with_value, value_in, is_held, number_of}

one-add : (n : ℕ) → 1 + n ≡ suc n
one-add n = omega arith

pub keys_zip : (ps : List AttributePath) (vs : List Value) → length ps ≡ length vs → keys_of (zip ps vs) ≡ ps
keys_zip [] vs h = refl
keys_zip (p ∷ ps) [] h = absurd (omega (arith, h))
keys_zip (p ∷ ps) (v ∷ vs) h = ap (λ l. p ∷ l) (keys_zip ps vs (omega (arith, h)))

pub lookup_zip : (ps : List AttributePath) (vs : List Value) (p : AttributePath) → length ps ≡ length vs → lookup (same_path p) (zip ps vs) ≡ slice_get vs (position_or_len (same_path p) ps)
lookup_zip [] [] p h = refl
lookup_zip [] (v ∷ vs) p h = absurd (omega (arith, h))
lookup_zip (q ∷ ps) [] p h = absurd (omega (arith, h))
lookup_zip (q ∷ ps) (v ∷ vs) p h = by (same_path p q) (lookup_zip ps vs p (omega (arith, h)))
  where
    by : (b : Bool) → lookup (same_path p) (zip ps vs) ≡ slice_get vs (position_or_len (same_path p) ps) → cond b (Some v) (lookup (same_path p) (zip ps vs)) ≡ slice_get (v ∷ vs) (cond (not b) (1 + position_or_len (same_path p) ps) 0)
    by true e = refl
    by false e = rw one-add e

pub set_zip : (ps : List AttributePath) (vs : List Value) (p : AttributePath) (w : Value) → length ps ≡ length vs → position_or_len (same_path p) ps < length ps → with_value (zip ps vs) p w ≡ zip ps (slice_set vs (position_or_len (same_path p) ps) w)
set_zip [] vs p w h g = absurd (omega (arith, g))
set_zip (q ∷ ps) [] p w h g = absurd (omega (arith, h))
set_zip (q ∷ ps) (v ∷ vs) p w h g = by (same_path p q) g (set_zip ps vs p w (omega (arith, h)))
  where
    by : (b : Bool) → cond (not b) (1 + position_or_len (same_path p) ps) 0 < suc (length ps)
        → (position_or_len (same_path p) ps < length ps → with_value (zip ps vs) p w ≡ zip ps (slice_set vs (position_or_len (same_path p) ps) w))
        → (if b then (q, w) ∷ zip ps vs else (q, v) ∷ with_value (zip ps vs) p w) ≡ zip (q ∷ ps) (slice_set (v ∷ vs) (cond (not b) (1 + position_or_len (same_path p) ps) 0) w)
    by true g rest = refl
    by false g rest = rw one-add (ap (λ l. (q, v) ∷ l) (rest (omega (arith, g))))

pub push_zip : (ps : List AttributePath) (vs : List Value) (p : AttributePath) (w : Value) → length ps ≡ length vs → position_or_len (same_path p) ps ≡ length ps → with_value (zip ps vs) p w ≡ zip (ps ++ p ∷ []) (vs ++ w ∷ [])
push_zip [] [] p w h g = refl
push_zip [] (v ∷ vs) p w h g = absurd (omega (arith, h))
push_zip (q ∷ ps) [] p w h g = absurd (omega (arith, h))
push_zip (q ∷ ps) (v ∷ vs) p w h g = by (same_path p q) g (push_zip ps vs p w (omega (arith, h)))
  where
    by : (b : Bool) → cond (not b) (1 + position_or_len (same_path p) ps) 0 ≡ suc (length ps)
        → (position_or_len (same_path p) ps ≡ length ps → with_value (zip ps vs) p w ≡ zip (ps ++ p ∷ []) (vs ++ w ∷ []))
        → (if b then (q, w) ∷ zip ps vs else (q, v) ∷ with_value (zip ps vs) p w) ≡ (q, v) ∷ zip (ps ++ p ∷ []) (vs ++ w ∷ [])
    by true g rest = absurd (omega (arith, g))
    by false g rest = ap (λ l. (q, v) ∷ l) (rest (omega (arith, g)))

pub length_zip : (ps : List AttributePath) (vs : List Value) → length ps ≡ length vs → length (zip ps vs) ≡ length ps
length_zip [] vs h = refl
length_zip (p ∷ ps) [] h = absurd (omega (arith, h))
length_zip (p ∷ ps) (v ∷ vs) h = ap suc (length_zip ps vs (omega (arith, h)))

module _ (ps : List AttributePath) (vs : List Value) (p : AttributePath) (long : length ps ≡ length vs) where
  pub number_zip : number_of (zip ps vs) p ≡ position_or_len (same_path p) ps
  number_zip = ap (position_or_len (same_path p)) (keys_zip ps vs long)

  pub held_zip : (n : ℕ) (v : Value) → number_among ps p ≡ Some n → slice_get vs n ≡ Some v → (is_held (zip ps vs) p ≡ true) × (n ≡ number_of (zip ps vs) p) × (v ≡ value_in (zip ps vs) p)
  held_zip n v e g =
      let place = (number_place ps p n e).0 in
      let here : lookup (same_path p) (zip ps vs) ≡ Some v = lookup_zip ps vs p long ∙ (ap (slice_get vs) place ∙ g) in
      (rw here refl, sym place ∙ sym number_zip, rw here refl)

  pub new_zip : number_among ps p ≡ None → is_held (zip ps vs) p ≡ false
  new_zip e = rw (lookup_zip ps vs p long, no_number ps p e, long) (none vs)
    where
      none : (xs : List Value) → is_some (slice_get xs (length xs)) ≡ false
      none [] = refl
      none (x ∷ xs) = none xs

  pub absent_zip : is_held (zip ps vs) p ≡ false → number_among ps p ≡ None
  absent_zip h = by (number_among ps p) refl
    where
      at : (xs : List Value) (n : ℕ) → n < length xs → is_some (slice_get xs n) ≡ true
      at [] n g = absurd (omega (arith, g))
      at (x ∷ xs) zero g = refl
      at (x ∷ xs) (suc n) g = at xs n (omega (arith, g))

      by : (o : Option ℕ) → number_among ps p ≡ o → number_among ps p ≡ None
      by None e = e
      by (Some n) e =
          let place = number_place ps p n e in
          let yes : is_held (zip ps vs) p ≡ true = ap is_some (lookup_zip ps vs p long ∙ ap (slice_get vs) place.0) ∙ at vs n (omega (arith, place.1, long)) in
          absurd (cc)

  pub place_zip : is_held (zip ps vs) p ≡ true → position_or_len (same_path p) ps < length ps
  place_zip h = by (number_among ps p) refl
    where
      by : (o : Option ℕ) → number_among ps p ≡ o → position_or_len (same_path p) ps < length ps
      by None e = let none = new_zip e in absurd (cc)
      by (Some n) e = let place = number_place ps p n e in omega (arith, place.0, place.1)
