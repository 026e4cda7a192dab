use Rattle.std.proofs.Common.{◌≡◌, ◌-◌, length, map, take}
use Rattle.kernel_layout.specs.Plans.{plan_of}
use Rattle.kernel_layout.proofs.layout.plans_by.Given as goal

abbrev pub invariant-loop-parts : goal.invariant-loop-parts
invariant-loop-parts l = l.plans.items ≡ map (λ e. plan_of l.meta.table l.kinds e.1) (take l.number l.meta.declared.events)

abbrev pub decreases-loop-parts : goal.decreases-loop-parts
decreases-loop-parts l = length l.meta.declared.events - l.number
