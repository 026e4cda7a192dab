use Rattle.host_merge.proofs.Theirs.{among, between}
use Rattle.host_merge.proofs.laws.messages_are_theirs.Goals as goal

pub returns-clause-between : goal.returns-clause-between
returns-clause-between c = λ hosts matched ambiguous times late are. between hosts matched ambiguous are times late

pub returns-clause-among : goal.returns-clause-among
returns-clause-among c = λ hosts matched ambiguous merged are keeps. among hosts matched ambiguous are merged keeps
