use Rattle.std.proofs.Common.{◌≡◌, ◌++◌, drop, map}
use Rattle.kernel_layout.specs.Tracepoints.{layout_of}
use Rattle.decode_pool.proofs.all.layouts_of.Given as goal

abbrev pub invariant-loop-host : goal.invariant-loop-host
invariant-loop-host l = l.layouts.items ++ map (λ h. layout_of h.meta) (drop l.host-index l.hosts) ≡ map (λ h. layout_of h.meta) l.hosts
