-- The text of questions: a line each (this project's own format).
use Rattle.std.specs.Prelude.{◌≡◌, ◌≢◌, ◌⊎◌, ℕ, ◌+◌, ◌==◌, Bool, List, [], ◌∷◌, ◌++◌, length, flat_map}
use Rattle.std.specs.List.{AllByRecursion}
use Rattle.std.specs.Fmt.{decimal}
use Rattle.trace_types.specs.Paths.{path_text}
use Rattle.history_core.specs.declared.question.Question.{Question}
use Rattle.report_views.specs.Asked.{IsQuestion}

-- how many line feeds a question file may have
abbrev pub QUESTION_LIMIT : ℕ
QUESTION_LIMIT = 65536

abbrev pub is_feed : ℕ → Bool
is_feed b = b == 10

-- the instant, a space and the path
abbrev pub question_line : Question → List ℕ
question_line q = decimal q.t ++ 32 ∷ path_text q.path

-- and a line feed
abbrev pub question_text : Question → List ℕ
question_text q = question_line q ++ 10 ∷ []

-- the text is the question's line without its line feed
pub record IsQuestionLine (line : List ℕ) (q : Question) : Type 0 where
  pub spelling : line ≡ question_line q
  pub is_question : IsQuestion q

-- the bytes are these questions, and there is one
pub record AreQuestions (bytes : List ℕ) (questions : List Question) : Type 0 where
  pub spelling : bytes ≡ flat_map question_text questions
  pub each : AllByRecursion IsQuestion questions
  pub some : questions ≢ []

-- the first bad line, from 1: after questions something follows that begins with none, or there is none at all
pub record IsFirstBadQuestion (bytes : List ℕ) (line : ℕ) : Type 0 where
  pub questions : List Question
  pub rest : List ℕ
  pub parts : bytes ≡ flat_map question_text questions ++ rest
  pub each : AllByRecursion IsQuestion questions
  pub no_more : (q : Question) (after : List ℕ) → IsQuestion q → rest ≢ question_text q ++ after
  pub left : (rest ≢ []) ⊎ (questions ≡ [])
  pub line_is : line ≡ length questions + 1
