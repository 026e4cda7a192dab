-- The last place at or before each instant of a piece.
use Rattle.std.proofs.Common.{IfNone, ◌≡◌, ◌⊎◌, inl, inr, ⊎_elim, ℕ, zero, suc, ◌<◌, ◌≤◌, List, [], ◌∷◌, Option, None, Some, IfSome, length, map, slice_get, refl, subst, arith}
use Rattle.std.specs.List.Sorted.{IsNonDecreasing}
use Rattle.std.proofs.lemmas.Option.{get_or_from_slice_get, slice_get_within}
use Rattle.trace_types.specs.declared.event.Merged.{Merged}
use Rattle.host_merge.specs.declared.placed.Placed.{Placed}
use Rattle.wait_graph.specs.Graph.{IsLastAt}
use Rattle.critical_path.specs.Holder.{HoldsAt}
use Rattle.critical_path.specs.Steps.{HoldsAfter, IsPlaceAt, IsPlaceFrom, IsUntil}
use Rattle.critical_path.specs.declared.piece.Holder.{Holder}
use native.Mathlib.Decide.{dec_lt}
use mathlib.Core.Logic.{dite}

one_key : (keys : List ℕ) (i a b : ℕ) → slice_get keys i ≡ Some a → slice_get keys i ≡ Some b → a ≡ b
one_key keys i a b e f = cc

not_below : (keys : List ℕ) → IsNonDecreasing keys → (i j a b : ℕ) → i ≤ j → slice_get keys i ≡ Some a → slice_get keys j ≡ Some b → a ≤ b
not_below keys rise i j a b le ati atj =
    let r = rise i j 0 le (slice_get_within keys j b atj) in
    let x = get_or_from_slice_get keys i a 0 ati in
    let y = get_or_from_slice_get keys j b 0 atj in
    omega (arith, r, x, y)

-- a key at or before an instant is the last, or all are after it
pub last_or_none : (keys : List ℕ) (t : ℕ) → ((p : ℕ) × IsLastAt keys t p) ⊎ ((i k : ℕ) → slice_get keys i ≡ Some k → t < k)
last_or_none [] t = inr (λ i k at. absurd (cc))
last_or_none (x ∷ xs) t = by (last_or_none xs t)
  where
    by : (((p : ℕ) × IsLastAt xs t p) ⊎ ((i k : ℕ) → slice_get xs i ≡ Some k → t < k)) → ((p : ℕ) × IsLastAt (x ∷ xs) t p) ⊎ ((i k : ℕ) → slice_get (x ∷ xs) i ≡ Some k → t < k)
    by (inl f) = inl (suc f.0, record { key = f.1.key; there = f.1.there; not_after = f.1.not_after; last = later f })
      where
        later : (f : (p : ℕ) × IsLastAt xs t p) (i k : ℕ) → suc f.0 < i → slice_get (x ∷ xs) i ≡ Some k → t < k
        later f zero k lt at = absurd (omega (arith, lt))
        later f (suc i) k lt at = f.1.last i k (omega (arith, lt)) at
    by (inr none) = dite (dec_lt t x) (λ lt. inr (all lt none)) (λ ge. inl (0, record { key = x; there = refl; not_after = omega (arith, ge); last = later none }))
      where
        some_key : (a b : ℕ) → Some a ≡ Some b → a ≡ b
        some_key a b e = cc

        all : t < x → ((i k : ℕ) → slice_get xs i ≡ Some k → t < k) → (i k : ℕ) → slice_get (x ∷ xs) i ≡ Some k → t < k
        all lt none zero k at = subst (λ n. t < n) (some_key x k at) lt
        all lt none (suc i) k at = none i k at

        later : ((i k : ℕ) → slice_get xs i ≡ Some k → t < k) → (i k : ℕ) → 0 < i → slice_get (x ∷ xs) i ≡ Some k → t < k
        later none zero k lt at = absurd (omega (arith, lt))
        later none (suc i) k lt at = none i k at

-- the last place at an instant isn't before the last at an earlier one
not_before : (keys : List ℕ) (start t place : ℕ) → IsLastAt keys start place → start ≤ t → (p : ℕ) × ((place ≤ p) × IsLastAt keys t p)
not_before keys start t place is le = ⊎_elim
    (λ f. (f.0, (dite (dec_lt f.0 place) (λ lt. let a = f.1.last place is.key lt is.there in let b = is.not_after in absurd (omega (arith, a, b, le))) (λ ge. omega (arith, ge)), f.1)))
    (λ none. let a = none place is.key is.there in let b = is.not_after in absurd (omega (arith, a, b, le)))
    (last_or_none keys t)

-- after the last key there is no place after it
pub at_the_end : (keys : List ℕ) (start t until : ℕ) (place : Option ℕ) → IsPlaceAt keys start place → IsUntil place until → length keys ≤ until → start ≤ t → IsPlaceFrom keys t place until
at_the_end keys start t until None none from le lt = λ p is. let w = slice_get_within keys p is.key is.there in absurd (omega (arith, w, le, from))
at_the_end keys start t until (Some place) is from le lt =
    let f = not_before keys start t place is lt in
    let w = slice_get_within keys f.0 f.1.1.key f.1.1.there in
    (f.0, f.1.0, omega (arith, w, le), f.1.1)

-- the key at a later place is later
pub key_is_later : (keys : List ℕ) (start key until : ℕ) (place : Option ℕ) → IsPlaceAt keys start place → IsUntil place until → slice_get keys until ≡ Some key → start < key
key_is_later keys start key until (Some place) is from at = is.last until key from at
key_is_later keys start key until None none from at = ⊎_elim (λ f. absurd (none f.0 f.1)) (λ all. all until key at) (last_or_none keys start)

-- before the key at a place the last place is before that
pub up_to_key : (keys : List ℕ) → IsNonDecreasing keys → (start t key until : ℕ) (place : Option ℕ) → IsPlaceAt keys start place → IsUntil place until → slice_get keys until ≡ Some key → start ≤ t → t < key → IsPlaceFrom keys t place until
up_to_key keys rise start t key until None none from at le lt = λ p is.
    let r = not_below keys rise until p key is.key (omega (arith, from)) at is.there in
    let b = is.not_after in omega (arith, r, lt, b)
up_to_key keys rise start t key until (Some place) is from at le lt =
    let f = not_before keys start t place is le in
    (f.0, f.1.0, dite (dec_lt f.0 until) (λ l. l) (λ ge. let r = not_below keys rise until f.0 key f.1.1.key (omega (arith, ge)) at f.1.1.there in let b = f.1.1.not_after in absurd (omega (arith, r, lt, b))), f.1.1)

pub place_inside : (keys : List ℕ) (t : ℕ) (place : Option ℕ) → IsPlaceAt keys t place → IfSome place (λ p. p < length keys)
place_inside keys t None is = tt
place_inside keys t (Some p) is = slice_get_within keys p is.key is.there

pub place_found : (keys : List ℕ) (t : ℕ) (place : Option ℕ) → IfSome place (IsLastAt keys t) → IfNone place ((p : ℕ) → ¬ IsLastAt keys t p) → IsPlaceAt keys t place
place_found keys t None found none = none
place_found keys t (Some p) found none = found

-- who holds a thread up after the last place, holds it up at the instant
pub held_at : (merged : List Merged) (placed : List Placed) (keys : List ℕ) (host tid t until : ℕ) (place : Option ℕ) (h : Holder) → keys ≡ map (λ (m : Merged). m.key) merged → IsPlaceFrom keys t place until → HoldsAfter merged placed host tid place until h → HoldsAt merged placed host tid t h
held_at merged placed keys host tid t until None h e is x = inr (subst (λ ks. (p : ℕ) → ¬ IsLastAt ks t p) e is, x)
held_at merged placed keys host tid t until (Some place) h e is x = let at = x is.0 is.1 is.2 in inl (is.0, at.0, subst (λ ks. IsLastAt ks t is.0) e is.3, at.1)
