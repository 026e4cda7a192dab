-- The questions of a file.
use Rattle.std.proofs.Common.{List, [], ◌∷◌}
use Rattle.std.specs.List.{AllByRecursion}
use Rattle.history_core.specs.declared.question.Question.{Question}
use Rattle.report_views.specs.Asked.{IsQuestion, IsTimely}

-- the questions of a file ask for instants before the end of all times
pub all_timely : (questions : List Question) → AllByRecursion IsQuestion questions → AllByRecursion IsTimely questions
all_timely [] h = tt
all_timely (q ∷ questions) h = (h.0.below, all_timely questions h.1)
