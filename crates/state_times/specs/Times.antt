-- How long attributes have which values in the window of a merge (this project's own).
use Rattle.std.specs.Prelude.{ℕ, pos, ◌-◌, ◌&&◌, Bool, not, List, [], ◌∷◌, count_by}
use Rattle.std.specs.List.{list_any, range_with_len}
use Rattle.trace_types.specs.declared.path.Path.{Path as AttributePath}
use Rattle.trace_types.specs.declared.value.Value.{Value}
use Rattle.trace_types.specs.declared.value.Value.TheVariants.{Null, Int}
use Rattle.trace_types.specs.declared.thread_status.TheConstants as status
use Rattle.trace_types.specs.declared.event.Merged.{Merged}
use Rattle.trace_types.specs.Same.{same_path, same_value}
use Rattle.kernel_provider.specs.declared.step.Step.{Step}
use Rattle.kernel_provider.specs.declared.step.Step.TheVariants.{Advance, Add, Change, Finish}
use Rattle.kernel_provider.specs.Replay.{state_at}
use Rattle.kernel_provider.specs.Steps.{steps_of}

-- the first key of a merge; 0 where it is empty
abbrev pub first_key : List Merged → ℕ
first_key [] = 0
first_key (m ∷ ms) = m.key

-- the last key of a merge; 0 where it is empty
abbrev pub last_key : List Merged → ℕ
last_key [] = 0
last_key (m ∷ []) = m.key
last_key (m ∷ (n ∷ ms)) = last_key (n ∷ ms)

-- the instants of the window, in ns: from the first key up to the last, which isn't among them
abbrev pub instants : List Merged → List ℕ
instants merged = range_with_len (first_key merged) (last_key merged - first_key merged)

-- in how many instants of the window an attribute has a value of a kind
abbrev pub time_with : (Value → Bool) → List Merged → AttributePath → ℕ
time_with is merged p = count_by (λ t. is (state_at merged t p)) (instants merged)

-- no value: nothing is known
abbrev pub is_unset : Value → Bool
is_unset v = same_value v Null

-- the number 0: as Thread of a processor, it is idle
abbrev pub is_zero : Value → Bool
is_zero v = same_value v (Int (pos 0))

-- the number 1: as Status of a thread, it runs
abbrev pub is_one : Value → Bool
is_one v = same_value v (Int status.RUNNING)

-- any value
abbrev pub is_set : Value → Bool
is_set v = not (is_unset v)

-- any value but 0: as Thread of a processor, a thread other than the idle one runs
abbrev pub is_busy : Value → Bool
is_busy v = not (is_unset v) && not (is_zero v)

-- the paths that steps add, in order
abbrev pub added : List Step → List AttributePath
added [] = []
added (Advance t ∷ steps) = added steps
added (Add p ∷ steps) = p ∷ added steps
added (Change t number value ∷ steps) = added steps
added (Finish ∷ steps) = added steps

-- whether an attribute has a value at some time of a merge
abbrev pub is_held : List Merged → AttributePath → Bool
is_held merged p = list_any (same_path p) (added (steps_of merged))
