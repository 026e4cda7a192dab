-- Rows of the state rules that were found by hand, so that a slip in the table does not check.
use Rattle.std.proofs.Common.{◌≡◌, refl, pos, neg_ℤ, [], ◌∷◌}
use Rattle.trace_types.specs.declared.path.Path.TheVariants as path
use Rattle.trace_types.specs.declared.path.ThreadKey.TheVariants.{Idle, Tid}
use Rattle.trace_types.specs.declared.path.CpuLeaf.TheVariants as cpu_leaf
use Rattle.trace_types.specs.declared.value.Value.TheVariants.{Null, Int}
use Rattle.trace_types.specs.declared.event.KernelEvent.TheVariants.{IrqIn, IrqOut, SoftIn, Migrate}
use Rattle.kernel_provider.specs.Rules.{RUNNING, READY, BLOCKED, ENDED, gives, left_status, other_assignments, thread_of}

-- the four statuses are the numbers 1 to 4
pub statuses : (RUNNING ≡ Int (pos 1)) × (READY ≡ Int (pos 2)) × (BLOCKED ≡ Int (pos 3)) × (ENDED ≡ Int (pos 4))
statuses = (refl, refl, refl, refl)

-- of a state that a thread leaves the processor with, the low 8 bits count: 0 and 256 are ready, 1, 257 and -1 are blocked
pub left : (left_status (pos 0) ≡ READY) × (left_status (pos 256) ≡ READY) × (left_status (pos 1) ≡ BLOCKED) × (left_status (pos 257) ≡ BLOCKED) × (left_status (neg_ℤ (pos 1)) ≡ BLOCKED)
left = (refl, refl, refl, refl, refl)

-- tid 0 is the idle thread of its processor
pub idle : (thread_of 0 3 ≡ Idle 3) × (thread_of 7 3 ≡ Tid 7)
idle = (refl, refl)

-- an interrupt is the processor's until it is done
pub interrupts : (other_assignments (λ p. Null) 1 2 (IrqIn 30) ≡ gives (path.Cpu 1 2 cpu_leaf.Irq) (Int (pos 30)) ∷ [])
    × (other_assignments (λ p. Null) 1 2 (IrqOut 30) ≡ gives (path.Cpu 1 2 cpu_leaf.Irq) Null ∷ [])
    × (other_assignments (λ p. Null) 1 2 (SoftIn 3) ≡ gives (path.Cpu 1 2 cpu_leaf.Softirq) (Int (pos 3)) ∷ [])
interrupts = (refl, refl, refl)

-- the idle thread goes nowhere
pub stays : other_assignments (λ p. Null) 1 2 (Migrate 0 5) ≡ []
stays = refl
