-- What the answers of a shared history are.
use Rattle.std.specs.Prelude.{◌≡◌, ℕ, ◌<◌, ◌≤◌, List, length, take}
use Rattle.trace_types.specs.declared.path.Path.{Path as AttributePath}
use Rattle.trace_types.specs.declared.event.Merged.{Merged}
use Rattle.kernel_provider.specs.Replay.{state_at}
use Rattle.kernel_provider.specs.Steps.{steps_of}
use Rattle.history_core.specs.declared.question.Answer.TheVariants.{State}
use Rattle.history_core.specs.Agreement.{replayed}
use Rattle.history_core.specs.Answers.{answer_after}
use Rattle.history_core.specs.Changes.{END, built_of}

-- the answer at each count is the state on replaying the whole merge to the instant, or not yet at or past the built end of so many steps
abbrev pub RepliesAtCounts : List Merged → Type 0
RepliesAtCounts merge = (count t : ℕ) (p : AttributePath) → answer_after (take count (steps_of merge)) t p ≡ replayed merge (built_of (take count (steps_of merge))) t p

-- the answer at the count of all steps is the state on replaying the merge to the instant
abbrev pub RepliesAtTheEnd : List Merged → Type 0
RepliesAtTheEnd merge = (count t : ℕ) (p : AttributePath) → length (steps_of merge) ≤ count → t < END → answer_after (take count (steps_of merge)) t p ≡ State (state_at merge t p)
