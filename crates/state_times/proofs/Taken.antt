-- The steps that are taken one after the other.
use Rattle.std.proofs.Common.{◌≡◌, ℕ, List, ◌++◌}
use Rattle.trace_types.specs.declared.path.Path.{Path as AttributePath}
use Rattle.kernel_provider.specs.declared.step.Step.{Step}
use Rattle.state_times.specs.declared.row.Row.{Row}
use Rattle.state_times.specs.Rows.{CanTakeAll, rows_after}
use Rattle.state_times.specs.Times.{added}

-- what is left leads to the same paths and rows as the whole
pub record AreTaken (first : ℕ) (whole_paths : List AttributePath) (whole_rows : List Row) (paths : List AttributePath) (rows : List Row) (left : List Step) : Type 0 where
  pub can : CanTakeAll first paths rows left
  pub paths_are : paths ++ added left ≡ whole_paths
  pub rows_are : rows_after first rows left ≡ whole_rows
