use Rattle.std.proofs.Common.{◌≡◌, ◌++◌, length, map}
use Rattle.std.specs.Vec.Iter.{into_iter_items, into_iter_len}
use Rattle.trace_types.specs.declared.host.HostEvents.{HostEvents}
use Rattle.hosttrace.proofs.clusters.names_of.Given as goal

abbrev pub invariant-loop-host : goal.invariant-loop-host
invariant-loop-host l =
    (l.yielded ++ into_iter_items l.host-iterator ≡ into_iter_items l.initial.host-iterator)
    × (into_iter_len l.host-iterator ≡ length (into_iter_items l.host-iterator))
    × (l.names.items ≡ map (λ (h : HostEvents). h.names.items) l.yielded)
