use Rattle.hosttrace.proofs.QuestionLines.{no_question}
use Rattle.hosttrace.proofs.questions.first_question.Goals as goal

pub returns-in_err-read_question-clause-none : goal.returns-in_err-read_question-clause-none
returns-in_err-read_question-clause-none c = rw c.from_residual-in_err-read_question.ensures (no_question c.args.text.now c.in_ok-line.line.now c.in_ok-line.after.now c.in_ok-line.ensures.found.0 c.in_ok-line.ensures.found.1 c.in_err-read_question.ensures.none)
