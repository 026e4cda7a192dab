-- The values of numbers, and of the paths that have them.
use Rattle.std.proofs.Common.{◌≡◌, ◌≢◌, ℕ, zero, suc, ◌+◌, ◌<◌, ◌≤◌, ◌==◌, Bool, true, false, not, cond, if◌then◌else◌, nat_le, List, [], ◌∷◌, ◌++◌, length, Option, Some, None, refl, sym, ap, ◌∙◌, arith, append_assoc, append-nil, length-append}
use Rattle.std.specs.Prelude.{unwrap_or}
use Rattle.std.specs.List.{position_or_len}
use Rattle.std.specs.Map.{lookup, keys_of}
use Rattle.std.proofs.lemmas.Bool.{eqb-true, eqb-false}
use Rattle.trace_types.specs.declared.path.Path.{Path as AttributePath}
use Rattle.trace_types.specs.declared.value.Value.{Value}
use Rattle.trace_types.specs.declared.value.Value.TheVariants.{Null}
use Rattle.trace_types.specs.Same.{same_path}
use Rattle.attribute_tree.specs.Numbered.{number_among}
use Rattle.attribute_tree.proofs.Numbers.{number_place, no_number}
use Rattle.kernel_provider.specs.declared.step.Step.{Step}
use Rattle.kernel_provider.specs.declared.step.Step.TheVariants.{Advance, Add, Change, Finish}
use Rattle.kernel_provider.specs.Steps.{Table, value_in, number_of}
use Rattle.kernel_provider.proofs.Replayed.{set_value, table_after}
use Rattle.history_core.specs.Changes.{paths_of, changes_of, last_value}
use Rattle.history_core.specs.Answers.{value_after}
use Rattle.history_core.specs.Stands.{AreSteps}

-- the value at a place of a table
abbrev pub place : Table → ℕ → Value
place [] n = Null
place (e ∷ es) zero = e.1
place (e ∷ es) (suc n) = place es n

place_push : (table : Table) (p : AttributePath) (n : ℕ) → place (table ++ (p, Null) ∷ []) n ≡ place table n
place_push [] p zero = refl
place_push [] p (suc n) = refl
place_push (e ∷ es) p zero = refl
place_push (e ∷ es) p (suc n) = place_push es p n

place_set : (table : Table) (n : ℕ) (v : Value) → n < length table → place (set_value table n v) n ≡ v
place_set [] n v h = absurd (omega (arith, h))
place_set (e ∷ es) zero v h = refl
place_set (e ∷ es) (suc n) v h = place_set es n v (omega (arith, h))

place_else : (table : Table) (n m : ℕ) (v : Value) → n ≢ m → place (set_value table n v) m ≡ place table m
place_else [] n m v h = refl
place_else (e ∷ es) zero zero v h = absurd (h refl)
place_else (e ∷ es) zero (suc m) v h = refl
place_else (e ∷ es) (suc n) zero v h = refl
place_else (e ∷ es) (suc n) (suc m) v h = place_else es n m v (λ e. h (ap suc e))

length_set : (table : Table) (n : ℕ) (v : Value) → length (set_value table n v) ≡ length table
length_set [] n v = refl
length_set (e ∷ es) zero v = refl
length_set (e ∷ es) (suc n) v = ap suc (length_set es n v)

keys_set : (table : Table) (n : ℕ) (v : Value) → keys_of (set_value table n v) ≡ keys_of table
keys_set [] n v = refl
keys_set (e ∷ es) zero v = refl
keys_set (e ∷ es) (suc n) v = ap (λ l. e.0 ∷ l) (keys_set es n v)

keys_push : (table : Table) (p : AttributePath) → keys_of (table ++ (p, Null) ∷ []) ≡ keys_of table ++ p ∷ []
keys_push [] p = refl
keys_push (e ∷ es) p = ap (λ l. e.0 ∷ l) (keys_push es p)

-- the value of a number after steps is that of its last change
pub numbered : (at : ℕ) (paths : List AttributePath) (built : ℕ) (table : Table) (s : List Step) → AreSteps paths built s → length table ≡ length paths → (n : ℕ) → place (table_after at table s) n ≡ last_value (place table n) at (changes_of n s)
numbered at paths built table [] h long n = refl
numbered at paths built table (Advance t ∷ s) h long n = numbered at _ t table s h.1 (long ∙ ap length (sym (append-nil paths))) n
numbered at paths built table (Add p ∷ s) h long n =
    numbered at _ built (table ++ (p, Null) ∷ []) s h.1 (length-append table _ ∙ (ap (λ k. k + 1) long ∙ sym (length-append paths (p ∷ [])))) n ∙ ap (λ v. last_value v at (changes_of n s)) (place_push table p n)
numbered at paths built table (Change t m v ∷ s) h long n = by (nat_le t at) (m == n) refl refl (λ tb same. numbered at _ built tb s h.1 same n)
  where
    inside : m < length table
    inside = omega (arith, h.0.1.1, long)

    kept : length table ≡ length (paths ++ [])
    kept = long ∙ ap length (sym (append-nil paths))

    by : (b k : Bool) → (m == n) ≡ k → nat_le t at ≡ b → ((tb : Table) → length tb ≡ length (paths ++ []) → place (table_after at tb s) n ≡ last_value (place tb n) at (changes_of n s))
        → place (table_after at (if b then set_value table m v else table) s) n ≡ last_value (place table n) at (if k then record { start = t; value = v } ∷ changes_of n s else changes_of n s)
    by true true e on rest = rest (set_value table m v) (length_set table m v ∙ kept) ∙ (ap (λ w. last_value w at (changes_of n s)) (ap (λ j. place (set_value table m v) j) (sym (eqb-true m n e)) ∙ place_set table m v inside) ∙ ap (λ (b : Bool). last_value (if b then v else place table n) at (changes_of n s)) (sym on))
    by true false e on rest = rest (set_value table m v) (length_set table m v ∙ kept) ∙ ap (λ w. last_value w at (changes_of n s)) (place_else table m n v (eqb-false m n e))
    by false true e on rest = rest table kept ∙ ap (λ (b : Bool). last_value (if b then v else place table n) at (changes_of n s)) (sym on)
    by false false e on rest = rest table kept
numbered at paths built table (Finish ∷ s) h long n = numbered at _ _ table s h.1 (long ∙ ap length (sym (append-nil paths))) n

keys_after : (at : ℕ) (table : Table) (s : List Step) → keys_of (table_after at table s) ≡ keys_of table ++ paths_of s
keys_after at table [] = sym (append-nil (keys_of table))
keys_after at table (Advance t ∷ s) = keys_after at table s
keys_after at table (Add p ∷ s) = keys_after at (table ++ (p, Null) ∷ []) s ∙ (ap (λ l. l ++ paths_of s) (keys_push table p) ∙ append_assoc (keys_of table) (p ∷ []) (paths_of s))
keys_after at table (Change t m v ∷ s) = by (nat_le t at) (keys_after at (set_value table m v) s) (keys_after at table s)
  where
    by : (b : Bool) → keys_of (table_after at (set_value table m v) s) ≡ keys_of (set_value table m v) ++ paths_of s → keys_of (table_after at table s) ≡ keys_of table ++ paths_of s → keys_of (table_after at (if b then set_value table m v else table) s) ≡ keys_of table ++ paths_of s
    by true set same = set ∙ ap (λ l. l ++ paths_of s) (keys_set table m v)
    by false set same = same
keys_after at table (Finish ∷ s) = keys_after at table s

-- the value of a path stands at its place
value_place : (table : Table) (p : AttributePath) → value_in table p ≡ place table (number_of table p)
value_place [] p = refl
value_place (e ∷ es) p = by (same_path p e.0) (value_place es p)
  where
    one-add : (n : ℕ) → 1 + n ≡ suc n
    one-add n = omega arith

    by : (b : Bool) → value_in es p ≡ place es (number_of es p) → unwrap_or (cond b (Some e.1) (lookup (same_path p) es)) Null ≡ place (e ∷ es) (cond (not b) (1 + number_of es p) 0)
    by true h = refl
    by false h = rw one-add h

place_past : (table : Table) (n : ℕ) → length table ≤ n → place table n ≡ Null
place_past [] n h = refl
place_past (e ∷ es) zero h = absurd (omega (arith, h))
place_past (e ∷ es) (suc n) h = place_past es n (omega (arith, h))

length_keys : (table : Table) → length (keys_of table) ≡ length table
length_keys [] = refl
length_keys (e ∷ es) = ap suc (length_keys es)

-- the value after steps is the one that the table of the paths has
pub value_is : (at : ℕ) (s : List Step) (p : AttributePath) → AreSteps [] 0 s → value_after s at p ≡ value_in (table_after at [] s) p
value_is at s p h = by (number_among (paths_of s) p) refl ∙ sym (value_place (table_after at [] s) p)
  where
    table : Table
    table = table_after at [] s

    by : (o : Option ℕ) → number_among (paths_of s) p ≡ o → value_after s at p ≡ place (table_after at [] s) (number_of (table_after at [] s) p)
    by None e =
        let same : number_of (table_after at [] s) p ≡ length (table_after at [] s) = ap (position_or_len (same_path p)) (keys_after at [] s) ∙ (no_number (paths_of s) p e ∙ (ap length (sym (keys_after at [] s)) ∙ length_keys (table_after at [] s))) in
        rw e (sym (place_past (table_after at [] s) (number_of (table_after at [] s) p) (omega (arith, same))))
    by (Some n) e =
        let same : number_of (table_after at [] s) p ≡ n = ap (position_or_len (same_path p)) (keys_after at [] s) ∙ (number_place (paths_of s) p n e).0 in
        rw e (sym (numbered at [] 0 [] s h refl n) ∙ ap (place (table_after at [] s)) (sym same))
