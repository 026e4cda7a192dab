use Rattle.hosttrace.proofs.OneAsking as asking
use Rattle.hosttrace.proofs.laws.one_asking.Goals as goal

pub returns-clause-questions : goal.returns-clause-questions
returns-clause-questions c = asking.one_asking

pub returns-clause-refused : goal.returns-clause-refused
returns-clause-refused c = asking.never_bad

pub returns-clause-one_line : goal.returns-clause-one_line
returns-clause-one_line c = asking.one_bad_line
