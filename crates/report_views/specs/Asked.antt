-- The ranges of a question.
use Rattle.std.specs.Prelude.{◌^◌, ◌<◌}
use Rattle.trace_types.specs.Paths.{IsPath}
use Rattle.history_core.specs.declared.question.Question.{Question}

-- an instant below 2^62, in ns, and a path in its ranges
pub record IsQuestion (q : Question) : Type 0 where
  pub below : q.t < 2 ^ 62
  pub is_path : IsPath q.path

-- an instant before the end of all times, below 2^62, in ns
abbrev pub IsTimely : Question → Type 0
IsTimely q = q.t < 2 ^ 62
