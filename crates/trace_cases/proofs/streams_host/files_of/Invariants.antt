use Rattle.std.specs.List.{AllByRecursion}
use Rattle.decode_pool.specs.Hosts.{IsSmall}
use Rattle.trace_cases.proofs.streams_host.files_of.Given as goal

abbrev pub invariant-loop-name : goal.invariant-loop-name
invariant-loop-name l = AllByRecursion IsSmall l.files.items
