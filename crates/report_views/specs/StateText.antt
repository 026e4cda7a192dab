-- The text of a state: a line for each attribute that has a value (this project's own format).
use Rattle.std.specs.Prelude.{◌≡◌, ◌≢◌, ℕ, Bool, false, not, IsTrue, ◌↔◌, List, [], ◌∷◌, ◌++◌, flat_map, Contains}
use Rattle.std.specs.List.{AllPairs}
use Rattle.std.specs.Ordering.{nat_cmp, is_lt}
use Rattle.std.specs.Cmp.Lexicographic.{slice_cmp}
use Rattle.trace_types.specs.Paths.{path_text, rank_of}
use Rattle.trace_types.specs.declared.path.Path.{Path as AttributePath}
use Rattle.trace_types.specs.declared.value.Value.{Value}
use Rattle.trace_types.specs.declared.value.Value.TheVariants.{Null}
use Rattle.trace_types.specs.Same.{same_value}
use Rattle.report_views.specs.declared.rows.Row.{Row}
use Rattle.report_views.specs.Values.{value_text}

-- a line: the path, a space, the value and a line feed
abbrev pub row_text : (ℕ → List (List ℕ)) → Row → List ℕ
row_text names row = path_text row.path ++ 32 ∷ value_text names row.path row.value ++ 10 ∷ []

-- the first row is listed before the second
abbrev pub IsBefore : Row → Row → Type 0
IsBefore a b = IsTrue (is_lt (slice_cmp nat_cmp (rank_of a.path) (rank_of b.path)))

-- the second row isn't listed before the first
abbrev pub IsNotAfter : Row → Row → Type 0
IsNotAfter a b = is_lt (slice_cmp nat_cmp (rank_of b.path) (rank_of a.path)) ≡ false

-- the row's attribute has a value
abbrev pub has_value : Row → Bool
has_value row = not (same_value row.value Null)

-- the rows are exactly the attributes that have a value, in the order of their places
pub record IsListing (values : AttributePath → Value) (rows : List Row) : Type 0 where
  pub exact : (row : Row) → Contains rows row ↔ ((values row.path ≡ row.value) × (row.value ≢ Null))
  pub order : AllPairs IsBefore rows

-- the text of a state, with the names of each host
abbrev pub IsStateText : (ℕ → List (List ℕ)) → (AttributePath → Value) → List ℕ → Type 0
IsStateText names values text = (rows : List Row) × IsListing values rows × (text ≡ flat_map (row_text names) rows)
