use Rattle.std.proofs.Common.{map}
use Rattle.type_scope.specs.Traces.{trace}
use Rattle.hosttrace.proofs.Left.{HostsLeft}
use Rattle.hosttrace.proofs.hosts.read_hosts.Given as goal

abbrev pub invariant-loop-at : goal.invariant-loop-at
invariant-loop-at l = HostsLeft l.files l.at (map trace l.metas.items)
