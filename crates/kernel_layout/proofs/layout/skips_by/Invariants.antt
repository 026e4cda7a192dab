use Rattle.std.proofs.Common.{◌≡◌, ◌-◌, length, map, take}
use Rattle.kernel_layout.specs.Plans.{plan_of}
use Rattle.kernel_layout.specs.Skips.{skip_of}
use Rattle.kernel_layout.proofs.layout.skips_by.Given as goal

abbrev pub invariant-loop-parts : goal.invariant-loop-parts
invariant-loop-parts l = l.skips.items ≡ map (λ e. skip_of l.kinds l.sizes (plan_of l.meta.table l.kinds e.1) e.1) (take l.number l.meta.declared.events)

abbrev pub decreases-loop-parts : goal.decreases-loop-parts
decreases-loop-parts l = length l.meta.declared.events - l.number
