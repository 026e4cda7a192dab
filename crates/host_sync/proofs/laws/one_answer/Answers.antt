use Rattle.host_sync.proofs.OneAnswer.{one_answer}
use Rattle.host_sync.proofs.laws.one_answer.Goals as goal

pub returns : goal.returns
returns c = one_answer
