use Rattle.disk_requests.proofs.OneAnswer.{one_answer}
use Rattle.disk_requests.proofs.laws.one_answer.Goals as goal

pub returns : goal.returns
returns c = one_answer
