-- The answer to a question after so many steps.
use Rattle.std.specs.Prelude.{ℕ, nat_le, if◌then◌else◌, List, Option, None, Some}
use Rattle.trace_types.specs.declared.path.Path.{Path as AttributePath}
use Rattle.trace_types.specs.declared.value.Value.{Value}
use Rattle.trace_types.specs.declared.value.Value.TheVariants.{Null}
use Rattle.attribute_tree.specs.Numbered.{number_among}
use Rattle.kernel_provider.specs.declared.step.Step.{Step}
use Rattle.history_core.specs.declared.question.Answer.{Answer}
use Rattle.history_core.specs.declared.question.Answer.TheVariants.{State, NotYet}
use Rattle.history_core.specs.Changes.{paths_of, built_of, changes_of, last_value}

-- of a path that wasn't added no change is known
abbrev pub numbered_value : Option ℕ → List Step → ℕ → Value
numbered_value None steps t = Null
numbered_value (Some n) steps t = last_value Null t (changes_of n steps)

-- the value of the last change of a path at or before an instant
abbrev pub value_after : List Step → ℕ → AttributePath → Value
value_after steps t p = numbered_value (number_among (paths_of steps) p) steps t

-- not yet at or past the built end (this project's own), else the value
abbrev pub answer_after : List Step → ℕ → AttributePath → Answer
answer_after steps t p = if nat_le (built_of steps) t then NotYet (built_of steps) else State (value_after steps t p)
