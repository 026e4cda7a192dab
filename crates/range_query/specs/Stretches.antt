-- How an attribute's value changed over a range (after the queries over a range of Trace Compass's state system).
use Rattle.std.specs.Prelude.{◌≡◌, ◌≢◌, ℕ, ◌<◌, ◌≤◌, List, [], ◌∷◌}
use Rattle.std.specs.List.{AllByRecursion}
use Rattle.trace_types.specs.declared.path.Path.{Path as AttributePath}
use Rattle.trace_types.specs.declared.value.Value.{Value}
use Rattle.kernel_provider.specs.declared.step.Step.{Step}
use Rattle.history_core.specs.declared.question.Answer.TheVariants.{State}
use Rattle.history_core.specs.Answers.{answer_after}
use Rattle.range_query.specs.declared.stretch.Stretch.{Stretch}

-- each of these has an instant, and they follow one another from one instant up to another
abbrev pub Tile : ℕ → List Stretch → ℕ → Type 0
Tile from [] to = from ≡ to
Tile from (s ∷ ss) to = (s.from ≡ from) × (s.from < s.to) × Tile s.to ss to

-- the first of these has another value than this one, and so has each than the one before it
abbrev pub DifferFrom : Value → List Stretch → Type 0
DifferFrom v [] = Unit {0}
DifferFrom v (s ∷ ss) = (v ≢ s.value) × DifferFrom s.value ss

-- neighbours have different values
abbrev pub NeighboursDiffer : List Stretch → Type 0
NeighboursDiffer [] = Unit {0}
NeighboursDiffer (s ∷ ss) = DifferFrom s.value ss

-- the stretches from one instant up to another: they tile what lies between, and are as long as can be
pub record AreStretches (from to : ℕ) (ss : List Stretch) : Type 0 where
  pub none : to ≤ from → ss ≡ []
  pub tile : from < to → Tile from ss to
  pub differ : NeighboursDiffer ss

-- at each instant of a stretch its value is what the steps answer
pub record AnswerOne (steps : List Step) (path : AttributePath) (s : Stretch) : Type 0 where
  pub each : (t : ℕ) → s.from ≤ t → t < s.to → answer_after steps t path ≡ State s.value

-- so it is of each of these stretches
abbrev pub AnswerEach : List Step → AttributePath → List Stretch → Type 0
AnswerEach steps path ss = AllByRecursion (AnswerOne steps path) ss

-- two lists of stretches over one range that have what the same steps answer are one list
abbrev pub HaveOneAnswer : Type 0
HaveOneAnswer = (from to : ℕ) (steps : List Step) (path : AttributePath) (ss rs : List Stretch) → AreStretches from to ss → AnswerEach steps path ss → AreStretches from to rs → AnswerEach steps path rs → ss ≡ rs
