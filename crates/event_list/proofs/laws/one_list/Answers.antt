use Rattle.event_list.proofs.OneList as one
use Rattle.event_list.proofs.laws.one_list.Goals as goal

pub returns-clause-lines : goal.returns-clause-lines
returns-clause-lines c = one.one_list

pub returns-clause-trace : goal.returns-clause-trace
returns-clause-trace c = one.one_trace
