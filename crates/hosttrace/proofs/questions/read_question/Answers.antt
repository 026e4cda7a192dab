use Rattle.hosttrace.proofs.QuestionLines.{no_space, no_time, no_path}
use Rattle.hosttrace.proofs.questions.read_question.Goals as goal

pub returns-in_err-t-clause-none : goal.returns-in_err-t-clause-none
returns-in_err-t-clause-none c = rw c.from_residual.ensures (no_space c.args.line.now c.in_err-t.ensures.none)

pub returns-in_err-t-2-clause-none : goal.returns-in_err-t-2-clause-none
returns-in_err-t-2-clause-none c = rw c.from_residual-in_err-t-2.ensures (no_time c.args.line.now c.in_ok-t.t.now c.in_ok-t.path.now c.in_ok-t.ensures.found.0 c.in_ok-t.ensures.found.1 c.in_err-t-2.ensures.none)

pub returns-in_err-path-clause-none : goal.returns-in_err-path-clause-none
returns-in_err-path-clause-none c = rw c.from_residual-in_err-path.ensures (no_path c.args.line.now c.in_ok-t.t.now c.in_ok-t.path.now c.in_ok-t.ensures.found.0 c.in_ok-t.ensures.found.1 c.in_err-path.ensures.none)
