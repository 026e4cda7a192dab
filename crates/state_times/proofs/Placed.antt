-- What stands at a number, of rows and of a table's values.
use Rattle.std.proofs.Common.{◌≡◌, ℕ, zero, suc, ◌+◌, ◌-◌, ◌<◌, ◌≤◌, Bool, true, false, not, cond, if◌then◌else◌, List, [], ◌∷◌, ◌++◌, length, get_or, slice_set, Some, refl, ap, ◌∙◌, arith}
use Rattle.std.specs.Prelude.{unwrap_or}
use Rattle.std.specs.List.{AllByRecursion, position_or_len}
use Rattle.std.specs.Map.{lookup, keys_of}
use Rattle.trace_types.specs.declared.path.Path.{Path as AttributePath}
use Rattle.trace_types.specs.declared.value.Value.{Value}
use Rattle.trace_types.specs.declared.value.Value.TheVariants.{Null}
use Rattle.trace_types.specs.Same.{same_path}
use Rattle.trace_types.specs.declared.event.Merged.{Merged}
use Rattle.kernel_provider.specs.Steps.{Table, value_in}
use Rattle.kernel_provider.proofs.Replayed as replayed
use Rattle.state_times.specs.declared.row.Row.{Row}
use Rattle.state_times.specs.Rows.{changed, changed_at, fresh}
use Rattle.state_times.specs.Times.{last_key}

one-add : (n : ℕ) → 1 + n ≡ suc n
one-add n = omega arith

abbrev pub is_number : ℕ → ℕ → Bool
is_number zero zero = true
is_number zero (suc i) = false
is_number (suc n) zero = false
is_number (suc n) (suc i) = is_number n i

-- ---- rows
pub row_pushed : (rows : List Row) (first i : ℕ) → get_or (rows ++ fresh first ∷ []) i (fresh first) ≡ get_or rows i (fresh first)
row_pushed [] first zero = refl
row_pushed [] first (suc i) = refl
row_pushed (r ∷ rs) first zero = refl
row_pushed (r ∷ rs) first (suc i) = row_pushed rs first i

pub row_changed : (rows : List Row) (n t i : ℕ) (v : Value) (d : Row) → n < length rows → get_or (changed_at rows n t v) i d ≡ (if is_number n i then changed (get_or rows i d) t v else get_or rows i d)
row_changed [] n t i v d h = absurd (omega (arith, h))
row_changed (r ∷ rs) zero t zero v d h = refl
row_changed (r ∷ rs) zero t (suc i) v d h = refl
row_changed (r ∷ rs) (suc n) t zero v d h = refl
row_changed (r ∷ rs) (suc n) t (suc i) v d h = row_changed rs n t i v d (omega (arith, h))

pub changed_length : (rows : List Row) (n t : ℕ) (v : Value) → length (changed_at rows n t v) ≡ length rows
changed_length [] n t v = refl
changed_length (r ∷ rs) zero t v = refl
changed_length (r ∷ rs) (suc n) t v = ap suc (changed_length rs n t v)

pub changed_there : (rows : List Row) (n t : ℕ) (row : Row) (v : Value) → row ≡ get_or rows n row → slice_set rows n (changed row t v) ≡ changed_at rows n t v
changed_there [] n t row v e = refl
changed_there (r ∷ rs) zero t row v e = ap (λ (x : Row). changed x t v ∷ rs) e
changed_there (r ∷ rs) (suc n) t row v e = ap (λ l. r ∷ l) (changed_there rs n t row v e)

pub changed_past : (rows : List Row) (n t : ℕ) (v : Value) → length rows ≤ n → changed_at rows n t v ≡ rows
changed_past [] n t v h = refl
changed_past (r ∷ rs) zero t v h = absurd (omega arith)
changed_past (r ∷ rs) (suc n) t v h = ap (λ l. r ∷ l) (changed_past rs n t v (omega arith))

pub row_all : (P : Row → Type 0) (rows : List Row) (n : ℕ) (d : Row) → AllByRecursion P rows → n < length rows → P (get_or rows n d)
row_all P [] n d h l = absurd (omega (arith, l))
row_all P (r ∷ rs) zero d h l = h.0
row_all P (r ∷ rs) (suc n) d h l = row_all P rs n d h.1 (omega (arith, l))

-- ---- values
abbrev pub at_number : Table → ℕ → Value
at_number [] i = Null
at_number (e ∷ es) zero = e.1
at_number (e ∷ es) (suc i) = at_number es i

pub value_pushed : (table : Table) (p : AttributePath) (i : ℕ) → at_number (table ++ (p, Null) ∷ []) i ≡ at_number table i
value_pushed [] p zero = refl
value_pushed [] p (suc i) = refl
value_pushed (e ∷ es) p zero = refl
value_pushed (e ∷ es) p (suc i) = value_pushed es p i

pub value_changed : (table : Table) (n i : ℕ) (v : Value) → n < length (keys_of table) → at_number (replayed.set_value table n v) i ≡ (if is_number n i then v else at_number table i)
value_changed [] n i v h = absurd (omega (arith, h))
value_changed (e ∷ es) zero zero v h = refl
value_changed (e ∷ es) zero (suc i) v h = refl
value_changed (e ∷ es) (suc n) zero v h = refl
value_changed (e ∷ es) (suc n) (suc i) v h = value_changed es n i v (omega (arith, h))

pub keys_pushed : (table : Table) (p : AttributePath) → keys_of (table ++ (p, Null) ∷ []) ≡ keys_of table ++ p ∷ []
keys_pushed [] p = refl
keys_pushed (e ∷ es) p = ap (λ l. e.0 ∷ l) (keys_pushed es p)

pub keys_changed : (table : Table) (n : ℕ) (v : Value) → keys_of (replayed.set_value table n v) ≡ keys_of table
keys_changed [] n v = refl
keys_changed (e ∷ es) zero v = refl
keys_changed (e ∷ es) (suc n) v = ap (λ l. e.0 ∷ l) (keys_changed es n v)

-- a path's value is that of its number
pub value_placed : (table : Table) (p : AttributePath) → value_in table p ≡ at_number table (position_or_len (same_path p) (keys_of table))
value_placed [] p = refl
value_placed (e ∷ es) p = by (same_path p e.0) (value_placed es p)
  where
    by : (b : Bool) → value_in es p ≡ at_number es (position_or_len (same_path p) (keys_of es)) → unwrap_or (cond b (Some e.1) (lookup (same_path p) es)) Null ≡ at_number (e ∷ es) (cond (not b) (1 + position_or_len (same_path p) (keys_of es)) 0)
    by true h = refl
    by false h = rw one-add h

-- ---- the last key is that of the last event
pub last_is : (ms : List Merged) (d : Merged) → 1 ≤ length ms → (get_or ms (length ms - 1) d).key ≡ last_key ms
last_is [] d h = absurd (omega (arith, h))
last_is (m ∷ []) d h = refl
last_is (m ∷ (n ∷ ms)) d h = let e : length (m ∷ (n ∷ ms)) - 1 ≡ suc (length (n ∷ ms) - 1) = omega arith in ap (λ k. (get_or (m ∷ (n ∷ ms)) k d).key) e ∙ last_is (n ∷ ms) d (omega arith)
