-- What is answered over a range of a history that others feed (this project's own).
use Rattle.std.specs.Prelude.{◌≡◌, ◌≤◌, ℕ, List, [], ◌∷◌, ◌++◌, min}
use Rattle.trace_types.specs.declared.path.Path.{Path as AttributePath}
use Rattle.kernel_provider.specs.declared.step.Step.{Step}
use Rattle.history_core.specs.Changes.{built_of}
use Rattle.range_query.specs.declared.stretch.RangeAnswer.{RangeAnswer}
use Rattle.range_query.specs.Stretches.{AnswerEach, AreStretches}
use Rattle.history_lock.specs.Tokens.{Asking}

-- the answer is that of these steps: the end up to which they build, the stretches up to there or to the range's end, and at each instant of a stretch the value that the steps answer
pub record IsRange (steps : List Step) (from to : ℕ) (path : AttributePath) (answer : RangeAnswer) : Type 0 where
  pub built : answer.built ≡ built_of steps
  pub stretches : AreStretches from (min to (built_of steps)) answer.stretches.items
  pub values : AnswerEach steps path answer.stretches.items

-- a pass was answered at a count, which is no less than it had seen: then it has seen so many, and its looks gain the count
pub record IsAskedAt (old new : Asking) (count : ℕ) : Type 0 where
  pub later : old.seen ≤ count
  pub seen : new.seen ≡ count
  pub looks : new.looks ≡ old.looks ++ count ∷ []
  pub plan : new.plan ≡ old.plan
  pub table : new.table ≡ old.table
