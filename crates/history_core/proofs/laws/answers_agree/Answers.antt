use Rattle.history_core.proofs.Agreement.{agreement, whole_agreement}
use Rattle.history_core.proofs.laws.answers_agree.Goals as goal

pub returns : goal.returns
returns c = record { on_the_way = agreement; at_the_end = whole_agreement }
