use Rattle.range_query.proofs.OneAnswer.{one_answer}
use Rattle.range_query.proofs.laws.one_answer.Goals as goal

pub returns : goal.returns
returns c = one_answer
