-- The steps of a merge (this project's own): the built end moves to each key, a new path is added, a value changes.
use Rattle.std.specs.Prelude.{ℕ, Bool, nat_lt, max, if◌then◌else◌, List, [], ◌∷◌, ◌++◌, unwrap_or, is_some}
use Rattle.std.specs.List.{position_or_len}
use Rattle.std.specs.Map.{lookup, keys_of}
use Rattle.trace_types.specs.declared.path.Path.{Path as AttributePath}
use Rattle.trace_types.specs.declared.value.Value.{Value}
use Rattle.trace_types.specs.declared.value.Value.TheVariants.{Null}
use Rattle.trace_types.specs.declared.event.Merged.{Merged}
use Rattle.trace_types.specs.Same.{same_path, same_value}
use Rattle.kernel_provider.specs.declared.rules.Assignment.{Assignment}
use Rattle.kernel_provider.specs.declared.step.Step.{Step}
use Rattle.kernel_provider.specs.declared.step.Step.TheVariants.{Advance, Add, Change, Finish}
use Rattle.kernel_provider.specs.Rules.{Values, assignments}

-- the paths that were added, in order, with their current values
abbrev pub Table : Type 0
Table = List (AttributePath × Value)

-- the table with another value of a path: at its place, or after the others where it wasn't added
abbrev pub with_value : Table → AttributePath → Value → Table
with_value [] p v = (p, v) ∷ []
with_value (e ∷ es) p v = if same_path p e.0 then (e.0, v) ∷ es else e ∷ with_value es p v

-- a path's current value: Null where it wasn't added
abbrev pub value_in : Table → Values
value_in table p = unwrap_or (lookup (same_path p) table) Null

abbrev pub is_held : Table → AttributePath → Bool
is_held table p = is_some (lookup (same_path p) table)

-- a path's number: the count of paths that were added before it
abbrev pub number_of : Table → AttributePath → ℕ
number_of table p = position_or_len (same_path p) (keys_of table)

-- an assignment of the current value changes nothing
abbrev pub is_idle : Table → Assignment → Bool
is_idle table a = same_value (value_in table a.path) a.value

abbrev pub assigned : Table → Assignment → Table
assigned table a = if is_idle table a then table else with_value table a.path a.value

abbrev pub all_assigned : Table → List Assignment → Table
all_assigned table [] = table
all_assigned table (a ∷ more) = all_assigned (assigned table a) more

-- the steps of an assignment at time t
abbrev pub assignment_steps : ℕ → Table → Assignment → List Step
assignment_steps t table a =
    if is_idle table a then [] else (if is_held table a.path then [] else Add a.path ∷ []) ++ Change t (number_of table a.path) a.value ∷ []

abbrev pub all_assignment_steps : ℕ → Table → List Assignment → List Step
all_assignment_steps t table [] = []
all_assignment_steps t table (a ∷ more) = assignment_steps t table a ++ all_assignment_steps t (assigned table a) more

-- the step to a key that is past the built end
abbrev pub advance : ℕ → ℕ → List Step
advance built key = if nat_lt built key then Advance key ∷ [] else []

-- the steps of events, from a built end and a table on
abbrev pub steps_from : ℕ → Table → List Merged → List Step
steps_from built table [] = Finish ∷ []
steps_from built table (m ∷ ms) =
    advance built m.key ++ (all_assignment_steps m.key table (assignments (value_in table) m.event) ++ steps_from (max built m.key) (all_assigned table (assignments (value_in table) m.event)) ms)

abbrev pub steps_of : List Merged → List Step
steps_of merge = steps_from 0 [] merge
