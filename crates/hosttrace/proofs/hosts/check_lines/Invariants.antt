use Rattle.std.proofs.Common.{◌≡◌, ◌++◌, drop, map}
use Rattle.type_scope.specs.Traces.{trace}
use Rattle.hosttrace.specs.Hosts.{host_lines}
use Rattle.hosttrace.proofs.hosts.check_lines.Given as goal

abbrev pub invariant-loop-at : goal.invariant-loop-at
invariant-loop-at l = l.text.items ++ host_lines l.at (map trace (drop l.at l.metas)) ≡ host_lines 0 (map trace l.metas)
