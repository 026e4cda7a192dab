-- The rows that steps make, and their values.
use Rattle.std.proofs.Common.{◌≡◌, ℕ, zero, suc, ◌≤◌, List, [], ◌∷◌, length, refl, ap, arith, get_or, slice_set}
use Rattle.trace_types.specs.declared.value.Value.{Value}
use Rattle.report_views.specs.declared.rows.Row.{Row}
use Rattle.report_views.specs.Rows.{set_value}

pub set_value_at : (rows : List Row) (n : ℕ) (row : Row) (v : Value) → row ≡ get_or rows n row → slice_set rows n (record row { value = v }) ≡ set_value rows n v
set_value_at [] n row v e = refl
set_value_at (r ∷ rs) zero row v e = ap (λ (x : Row). record x { value = v } ∷ rs) e
set_value_at (r ∷ rs) (suc n) row v e = ap (λ l. r ∷ l) (set_value_at rs n row v e)

pub set_value_past : (rows : List Row) (n : ℕ) (v : Value) → length rows ≤ n → set_value rows n v ≡ rows
set_value_past [] n v h = refl
set_value_past (r ∷ rs) zero v h = absurd (omega arith)
set_value_past (r ∷ rs) (suc n) v h = ap (λ l. r ∷ l) (set_value_past rs n v (omega arith))
