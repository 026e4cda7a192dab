-- The text of answers: a line for each question (this project's own format).
use Rattle.std.specs.Prelude.{ℕ, List, [], ◌∷◌, ◌++◌, codes}
use Rattle.std.specs.Fmt.{decimal}
use Rattle.trace_types.specs.Paths.{path_text}
use Rattle.trace_types.specs.declared.path.Path.{Path as AttributePath}
use Rattle.kernel_provider.specs.Rules.{Values}
use Rattle.history_core.specs.declared.question.Question.{Question}
use Rattle.history_core.specs.declared.question.Answer.{Answer}
use Rattle.history_core.specs.declared.question.Answer.TheVariants.{State, NotYet}
use Rattle.report_views.specs.Values.{value_text}

-- the value, or how far the history is built
abbrev pub answered : (ℕ → List (List ℕ)) → AttributePath → Answer → List ℕ
answered names p (State value) = value_text names p value
answered names p (NotYet built) = codes "not-yet " ++ decimal built

-- a line: the question, a space, its answer and a line feed
abbrev pub answer_text : (ℕ → List (List ℕ)) → Question → Answer → List ℕ
answer_text names q answer = decimal q.t ++ 32 ∷ (path_text q.path ++ 32 ∷ (answered names q.path answer ++ 10 ∷ []))

-- the line of a question to the values at each instant
abbrev pub asked_text : (ℕ → List (List ℕ)) → (ℕ → Values) → Question → List ℕ
asked_text names values q = answer_text names q (State (values q.t q.path))
