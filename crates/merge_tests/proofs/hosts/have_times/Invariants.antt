use Rattle.merge_tests.proofs.Times.{HaveTimesBelow}
use Rattle.merge_tests.proofs.hosts.have_times.Given as goal

abbrev pub invariant-loop-host : goal.invariant-loop-host
invariant-loop-host l = HaveTimesBelow l.host-index l.hosts
