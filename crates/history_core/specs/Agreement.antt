-- What a history of a merge's steps has to answer.
use Rattle.std.specs.Prelude.{◌≡◌, ℕ, ◌<◌, nat_le, if◌then◌else◌, List, ◌++◌}
use Rattle.std.specs.List.{AllByRecursion}
use Rattle.trace_types.specs.declared.path.Path.{Path as AttributePath}
use Rattle.trace_types.specs.declared.event.Merged.{Merged}
use Rattle.trace_types.specs.Order.{RiseFrom}
use Rattle.kernel_provider.specs.declared.step.Step.{Step}
use Rattle.kernel_provider.specs.Replay.{state_at}
use Rattle.kernel_provider.specs.Steps.{steps_of}
use Rattle.history_core.specs.declared.question.Answer.{Answer}
use Rattle.history_core.specs.declared.question.Answer.TheVariants.{State, NotYet}
use Rattle.history_core.specs.Answers.{answer_after}
use Rattle.history_core.specs.Changes.{END, built_of}

-- merged events: their keys never fall, and lie before the end of all times
pub record IsMerge (merge : List Merged) : Type 0 where
  pub rises : RiseFrom 0 merge
  pub below : AllByRecursion (λ m. m.key < END) merge

-- not yet at or past a built end, and before it the state on replaying the whole merge
abbrev pub replayed : List Merged → ℕ → ℕ → AttributePath → Answer
replayed merge built t p = if nat_le built t then NotYet built else State (state_at merge t p)

-- after any first steps of a merge, each answer is the state on replaying the whole merge to the instant, or not yet at or past the built end
abbrev pub AgreesOnTheWay : List Merged → Type 0
AgreesOnTheWay merge = (front back : List Step) → steps_of merge ≡ front ++ back → (t : ℕ) (p : AttributePath) → answer_after front t p ≡ replayed merge (built_of front) t p

-- after all steps of a merge, each answer before the end of all times is the state on replaying the merge to the instant
abbrev pub AgreesAtTheEnd : List Merged → Type 0
AgreesAtTheEnd merge = (t : ℕ) (p : AttributePath) → t < END → answer_after (steps_of merge) t p ≡ State (state_at merge t p)
