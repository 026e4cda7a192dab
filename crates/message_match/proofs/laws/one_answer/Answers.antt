use Rattle.message_match.proofs.OneAnswer.{one_answer}
use Rattle.message_match.proofs.laws.one_answer.Goals as goal

pub returns : goal.returns
returns c = one_answer
