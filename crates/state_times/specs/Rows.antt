-- The rows of attributes that steps make up, each with how long it had which value so far (this project's own).
use Rattle.std.specs.Prelude.{◌≡◌, ◌+◌, ◌-◌, ◌≤◌, ℕ, zero, suc, if◌then◌else◌, List, [], ◌∷◌, ◌++◌, get_or, length}
use Rattle.std.specs.List.{AllByRecursion, position_or_len}
use Rattle.trace_types.specs.declared.path.Path.{Path as AttributePath}
use Rattle.trace_types.specs.declared.value.Value.{Value}
use Rattle.trace_types.specs.declared.value.Value.TheVariants.{Null}
use Rattle.trace_types.specs.Same.{same_path}
use Rattle.attribute_tree.specs.Numbered.{IsNew}
use Rattle.kernel_provider.specs.declared.step.Step.{Step}
use Rattle.kernel_provider.specs.declared.step.Step.TheVariants.{Advance, Add, Change, Finish}
use Rattle.state_times.specs.declared.row.Row.{Row}
use Rattle.state_times.specs.Times.{added, is_one, is_unset, is_zero}

-- an attribute without a value since the window began
abbrev pub fresh : ℕ → Row
fresh first = record { value = Null; since = first; unset = 0; zero = 0; one = 0 }

-- another value from t on: the stretch up to t counts for the kind of the old one
abbrev pub changed : Row → ℕ → Value → Row
changed row t value = record {
  value = value;
  since = t;
  unset = row.unset + (if is_unset row.value then t - row.since else 0);
  zero = row.zero + (if is_zero row.value then t - row.since else 0);
  one = row.one + (if is_one row.value then t - row.since else 0);
}

-- the row of a number has another value from t on
abbrev pub changed_at : List Row → ℕ → ℕ → Value → List Row
changed_at [] number t value = []
changed_at (row ∷ rows) zero t value = changed row t value ∷ rows
changed_at (row ∷ rows) (suc number) t value = row ∷ changed_at rows number t value

-- a new path has a row without a value, and a change goes into its row
abbrev pub row_step : ℕ → List Row → Step → List Row
row_step first rows (Advance t) = rows
row_step first rows (Add p) = rows ++ fresh first ∷ []
row_step first rows (Change t number value) = changed_at rows number t value
row_step first rows Finish = rows

-- the rows after all of these steps
abbrev pub rows_after : ℕ → List Row → List Step → List Row
rows_after first rows [] = rows
rows_after first rows (step ∷ steps) = rows_after first (row_step first rows step) steps

-- the row of a path: one without a value where it wasn't added
abbrev pub row_among : List AttributePath → List Row → ℕ → AttributePath → Row
row_among paths rows first p = get_or rows (position_or_len (same_path p) paths) (fresh first)

-- the row's value is there since an instant that isn't after t, and no sum is longer than that
pub record IsWithin (t : ℕ) (row : Row) : Type 0 where
  pub since : row.since ≤ t
  pub unset : row.unset ≤ row.since
  pub zero : row.zero ≤ row.since
  pub one : row.one ≤ row.since

-- a step that can come where these paths were added and have these rows
abbrev pub CanTake : List AttributePath → List Row → Step → Type 0
CanTake paths rows (Advance t) = Unit {0}
CanTake paths rows (Add p) = IsNew paths p
CanTake paths rows (Change t number value) = AllByRecursion (IsWithin t) rows
CanTake paths rows Finish = Unit {0}

-- steps each of which can come after those before it
abbrev pub CanTakeAll : ℕ → List AttributePath → List Row → List Step → Type 0
CanTakeAll first paths rows [] = Unit {0}
CanTakeAll first paths rows (step ∷ steps) = CanTake paths rows step × CanTakeAll first (paths ++ added (step ∷ [])) (row_step first rows step) steps

-- the paths, the row of each, and the first and the last instant of the window
pub record Times : Type 0 where
  pub paths : List AttributePath
  pub rows : List Row
  pub first : ℕ
  pub last : ℕ

-- each path has a row that is within the window
pub record IsSound (paths : List AttributePath) (rows : List Row) (first last : ℕ) : Type 0 where
  pub count : length rows ≡ length paths
  pub window : first ≤ last
  pub within : AllByRecursion (IsWithin last) rows
