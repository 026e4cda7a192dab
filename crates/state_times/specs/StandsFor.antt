-- The times that are told of a merge (this project's own).
use Rattle.std.specs.Prelude.{◌≡◌, ◌+◌, ◌-◌, List}
use Rattle.std.specs.List.{IsDistinct}
use Rattle.trace_types.specs.declared.path.Path.{Path as AttributePath}
use Rattle.trace_types.specs.declared.event.Merged.{Merged}
use Rattle.trace_types.specs.Same.{same_path}
use Rattle.kernel_provider.specs.Replay.{state_at}
use Rattle.kernel_provider.specs.Steps.{steps_of}
use Rattle.state_times.specs.declared.row.Row.{Row}
use Rattle.state_times.specs.declared.times.PathTimes.{PathTimes}
use Rattle.state_times.specs.Rows.{Times, changed, row_among}
use Rattle.state_times.specs.Times.{added, first_key, is_busy, is_one, is_set, is_unset, is_zero, last_key, time_with}

-- a row as times, its last stretch counted
abbrev pub ended : Row → PathTimes
ended row = record { last = row.value; unset = row.unset; zero = row.zero; one = row.one }

-- what rows tell of an attribute
abbrev pub times_at : Times → AttributePath → PathTimes
times_at times p = let row = row_among times.paths times.rows times.first p in ended (changed row times.last row.value)

-- an attribute's value after all events, and how long it had none, 0 or 1 in the window
abbrev pub path_times : List Merged → AttributePath → PathTimes
path_times merged p = record { last = state_at merged (last_key merged) p; unset = time_with is_unset merged p; zero = time_with is_zero merged p; one = time_with is_one merged p }

-- the times are those of the merge, of any attribute, and the paths are those that have a value at some time, each once
pub record StandsFor (merged : List Merged) (times : Times) : Type 0 where
  pub exact : (p : AttributePath) → times_at times p ≡ path_times merged p
  pub paths : times.paths ≡ added (steps_of merged)
  pub distinct : IsDistinct same_path times.paths
  pub first : times.first ≡ first_key merged
  pub last : times.last ≡ last_key merged

-- busy, 0 and without a value: an attribute is one of these at each instant of the window
abbrev pub TimesFill : Type 0
TimesFill = (merged : List Merged) (p : AttributePath) → time_with is_busy merged p + time_with is_zero merged p + time_with is_unset merged p ≡ last_key merged - first_key merged

-- set and without a value: an attribute is one of these at each instant of the window
abbrev pub SetFills : Type 0
SetFills = (merged : List Merged) (p : AttributePath) → time_with is_set merged p + time_with is_unset merged p ≡ last_key merged - first_key merged
