-- The rows that steps make up to an instant.
use Rattle.std.specs.Prelude.{ℕ, zero, suc, nat_le, if◌then◌else◌, List, [], ◌∷◌, ◌++◌}
use Rattle.trace_types.specs.declared.value.Value.{Value}
use Rattle.trace_types.specs.declared.value.Value.TheVariants.{Null}
use Rattle.kernel_provider.specs.declared.step.Step.{Step}
use Rattle.kernel_provider.specs.declared.step.Step.TheVariants.{Advance, Add, Change, Finish}
use Rattle.report_views.specs.declared.rows.Row.{Row}

-- the row of a number has another value
abbrev pub set_value : List Row → ℕ → Value → List Row
set_value [] number value = []
set_value (row ∷ rows) zero value = record row { value = value } ∷ rows
set_value (row ∷ rows) (suc number) value = row ∷ set_value rows number value

-- a new path has no value; a change past the instant is passed over
abbrev pub row_step : ℕ → List Row → Step → List Row
row_step at rows (Advance t) = rows
row_step at rows (Add p) = rows ++ record { path = p; value = Null } ∷ []
row_step at rows (Change t number value) = if nat_le t at then set_value rows number value else rows
row_step at rows Finish = rows

abbrev pub rows_after : ℕ → List Row → List Step → List Row
rows_after at rows [] = rows
rows_after at rows (step ∷ steps) = rows_after at (row_step at rows step) steps
