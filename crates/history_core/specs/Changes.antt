-- What steps say of paths and values.
use Rattle.std.specs.Prelude.{◌≡◌, ◌⊎◌, ℕ, ◌==◌, ◌^◌, nat_le, if◌then◌else◌, List, [], ◌∷◌, Option, None, Some}
use Rattle.trace_types.specs.declared.path.Path.{Path as AttributePath}
use Rattle.trace_types.specs.declared.value.Value.{Value}
use Rattle.kernel_provider.specs.declared.step.Step.{Step}
use Rattle.kernel_provider.specs.declared.step.Step.TheVariants.{Advance, Add, Change, Finish}
use Rattle.history_core.specs.declared.closed.Since.{Since}

-- all times lie below this, in ns
abbrev pub END : ℕ
END = 2 ^ 62

-- the paths that were added, in order
abbrev pub paths_of : List Step → List AttributePath
paths_of [] = []
paths_of (Advance t ∷ steps) = paths_of steps
paths_of (Add p ∷ steps) = p ∷ paths_of steps
paths_of (Change t number value ∷ steps) = paths_of steps
paths_of (Finish ∷ steps) = paths_of steps

-- the built end: the time of the last advance, and the end of all times once the steps are finished
abbrev pub built_from : ℕ → List Step → ℕ
built_from built [] = built
built_from built (Advance t ∷ steps) = built_from t steps
built_from built (Add p ∷ steps) = built_from built steps
built_from built (Change t number value ∷ steps) = built_from built steps
built_from built (Finish ∷ steps) = built_from END steps

abbrev pub built_of : List Step → ℕ
built_of steps = built_from 0 steps

-- the changes of a number, in order: a time and the value from then on
abbrev pub changes_of : ℕ → List Step → List Since
changes_of n [] = []
changes_of n (Advance t ∷ steps) = changes_of n steps
changes_of n (Add p ∷ steps) = changes_of n steps
changes_of n (Change t number value ∷ steps) = if number == n then record { start = t; value = value } ∷ changes_of n steps else changes_of n steps
changes_of n (Finish ∷ steps) = changes_of n steps

-- the value of the last change at or before an instant
abbrev pub last_value : Value → ℕ → List Since → Value
last_value value t [] = value
last_value value t (c ∷ cs) = last_value (if nat_le c.start t then c.value else value) t cs

-- the last change
abbrev pub last_from : Option Since → List Since → Option Since
last_from o [] = o
last_from o (c ∷ cs) = last_from (Some c) cs

abbrev pub last_of : List Since → Option Since
last_of cs = last_from None cs

-- a change at this time is among the changes
abbrev pub IsTime : List Since → ℕ → Type 0
IsTime [] t = ⊥
IsTime (c ∷ cs) t = (c.start ≡ t) ⊎ IsTime cs t
