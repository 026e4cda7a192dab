-- The rows that the steps of a merge make up to an instant have the values of its replay.
use Rattle.std.proofs.Common.{◌≡◌, ℕ, zero, suc, Bool, true, false, cond, if◌then◌else◌, nat_lt, nat_le, List, [], ◌∷◌, ◌++◌, map, Some, refl, ap, ◌∙◌}
use Rattle.std.specs.Prelude.{unwrap_or}
use Rattle.std.specs.Map.{lookup}
use Rattle.trace_types.specs.declared.path.Path.{Path as AttributePath}
use Rattle.trace_types.specs.declared.value.Value.{Value}
use Rattle.trace_types.specs.declared.value.Value.TheVariants.{Null}
use Rattle.trace_types.specs.declared.event.Merged.{Merged}
use Rattle.trace_types.specs.Same.{same_path}
use Rattle.event_list.specs.Order.{RiseFrom}
use Rattle.kernel_provider.specs.declared.step.Step.{Step}
use Rattle.kernel_provider.specs.declared.step.Step.TheVariants.{Advance, Add, Change, Finish}
use Rattle.kernel_provider.specs.Replay.{state_at}
use Rattle.kernel_provider.specs.Steps.{Table, value_in, advance, steps_of}
use Rattle.kernel_provider.proofs.Replayed as replayed
use Rattle.report_views.specs.declared.rows.Row.{Row}
use Rattle.report_views.specs.Rows.{set_value, rows_after}

-- an entry of a table as a row
abbrev pub row_of : AttributePath × Value → Row
row_of e = record { path = e.0; value = e.1 }

abbrev pub rows_of : Table → List Row
rows_of table = map row_of table

-- the value of a path among rows
abbrev pub row_value : List Row → AttributePath → Value
row_value [] p = Null
row_value (r ∷ rs) p = if same_path p r.path then r.value else row_value rs p

row_value-rows_of : (table : Table) (p : AttributePath) → row_value (rows_of table) p ≡ value_in table p
row_value-rows_of [] p = refl
row_value-rows_of (e ∷ es) p = by (same_path p e.0) (row_value-rows_of es p)
  where
    by : (b : Bool) → row_value (rows_of es) p ≡ value_in es p → (if b then e.1 else row_value (rows_of es) p) ≡ unwrap_or (cond b (Some e.1) (lookup (same_path p) es)) Null
    by true h = refl
    by false h = h

-- ---- rows are the entries of the table
set_rows : (table : Table) (n : ℕ) (v : Value) → set_value (rows_of table) n v ≡ rows_of (replayed.set_value table n v)
set_rows [] n v = refl
set_rows (e ∷ es) zero v = refl
set_rows (e ∷ es) (suc n) v = ap (λ l. row_of e ∷ l) (set_rows es n v)

push_rows : (table : Table) (e : AttributePath × Value) → rows_of table ++ row_of e ∷ [] ≡ rows_of (table ++ e ∷ [])
push_rows [] e = refl
push_rows (d ∷ ds) e = ap (λ l. row_of d ∷ l) (push_rows ds e)

rows_table : (at : ℕ) (table : Table) (s : List Step) → rows_after at (rows_of table) s ≡ rows_of (replayed.table_after at table s)
rows_table at table [] = refl
rows_table at table (Advance t ∷ s) = rows_table at table s
rows_table at table (Add p ∷ s) = ap (λ r. rows_after at r s) (push_rows table (p, Null)) ∙ rows_table at (table ++ (p, Null) ∷ []) s
rows_table at table (Change t n v ∷ s) = by (nat_le t at) (rows_table at (replayed.set_value table n v) s) (rows_table at table s)
  where
    by : (b : Bool) → rows_after at (rows_of (replayed.set_value table n v)) s ≡ rows_of (replayed.table_after at (replayed.set_value table n v) s) → rows_after at (rows_of table) s ≡ rows_of (replayed.table_after at table s)
        → rows_after at (if b then set_value (rows_of table) n v else rows_of table) s ≡ rows_of (replayed.table_after at (if b then replayed.set_value table n v else table) s)
    by true set same = ap (λ r. rows_after at r s) (set_rows table n v) ∙ set
    by false set same = same
rows_table at table (Finish ∷ s) = rows_table at table s

-- an advance changes no row
pub advanced : (at built key : ℕ) (rows : List Row) (s : List Step) → rows_after at rows (advance built key ++ s) ≡ rows_after at rows s
advanced at built key rows s = by (nat_lt built key)
  where
    by : (b : Bool) → rows_after at rows ((if b then Advance key ∷ [] else []) ++ s) ≡ rows_after at rows s
    by true = refl
    by false = refl

-- of a whole merge
pub state_values : (events : List Merged) (at : ℕ) (q : AttributePath) → RiseFrom 0 events → row_value (rows_after at [] (steps_of events)) q ≡ state_at events at q
state_values events at q rise = ap (λ r. row_value r q) (rows_table at [] (steps_of events)) ∙ (row_value-rows_of (replayed.table_after at [] (steps_of events)) q ∙ replayed.state_values events at q rise)
