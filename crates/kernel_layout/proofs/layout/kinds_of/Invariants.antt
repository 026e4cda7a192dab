use Rattle.std.proofs.Common.{◌≡◌, ◌-◌, length, map, take}
use Rattle.kernel_layout.specs.Tracepoints.{kind_named}
use Rattle.kernel_layout.proofs.layout.kinds_of.Given as goal

abbrev pub invariant-loop-name : goal.invariant-loop-name
invariant-loop-name l = l.kinds.items ≡ map kind_named (take l.number l.meta.declared.event_names)

abbrev pub decreases-loop-name : goal.decreases-loop-name
decreases-loop-name l = length l.meta.declared.event_names - l.number
