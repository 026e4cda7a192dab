use Rattle.hosttrace.proofs.Alone.{stands_alone}
use Rattle.hosttrace.proofs.OneCluster as cluster
use Rattle.hosttrace.proofs.OneText as text
use Rattle.hosttrace.proofs.laws.one_cluster.Goals as goal

pub returns-clause-found : goal.returns-clause-found
returns-clause-found c = cluster.one_found

pub returns-clause-synced : goal.returns-clause-synced
returns-clause-synced c = text.one_answer

pub returns-clause-refused : goal.returns-clause-refused
returns-clause-refused c = cluster.never_refused

pub returns-clause-good : goal.returns-clause-good
returns-clause-good c = cluster.good_traces

pub returns-clause-alone : goal.returns-clause-alone
returns-clause-alone c = stands_alone
