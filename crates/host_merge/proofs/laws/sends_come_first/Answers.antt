use Rattle.host_merge.proofs.Theirs.{none_inverted, sends_first}
use Rattle.host_merge.proofs.laws.sends_come_first.Goals as goal

pub returns-clause-places : goal.returns-clause-places
returns-clause-places c = λ hosts matched fits parents merged is.
    sends_first hosts matched is.ambiguous is.messages is.drift fits parents merged is.own is.in_time is.from_one is.fits_are is.forest is.merge

pub returns-clause-inverted : goal.returns-clause-inverted
returns-clause-inverted c = none_inverted
