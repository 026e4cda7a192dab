use Rattle.std.proofs.Common.{length}
use Rattle.hosttrace.proofs.QuestionLines.{HasAsked}
use Rattle.hosttrace.proofs.questions.read_questions.Given as goal

abbrev pub invariant-loop-question : goal.invariant-loop-question
invariant-loop-question l = HasAsked l.fn.bytes l.questions.items l.rest

abbrev pub decreases-loop-question : goal.decreases-loop-question
decreases-loop-question l = length l.rest
