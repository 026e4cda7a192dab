-- Texts that were found by hand, so that a slip in the definitions does not check.
use Rattle.std.proofs.Common.{◌≡◌, refl, [], ◌∷◌}
use Rattle.std.specs.Prelude.{codes}
use Rattle.trace_types.specs.ByteTexts.{byte_text}
use Rattle.trace_types.specs.Padding.{name_in, padded}
use Rattle.trace_types.specs.Paths.{rank_of}
use Rattle.trace_types.specs.declared.path.Path.TheVariants.{Cpu, Thread}
use Rattle.trace_types.specs.declared.path.ThreadKey.TheVariants.{Idle, Tid}
use Rattle.trace_types.specs.declared.path.CpuLeaf.TheVariants as cpu_leaf
use Rattle.trace_types.specs.declared.path.ThreadLeaf.TheVariants as thread_leaf

-- a space and a percent sign are spelled, no byte at all is a percent sign alone
pub byte_texts : (byte_text (codes "swapper/0") ≡ codes "swapper/0") × (byte_text (codes "a b%") ≡ codes "a%20b%25") × (byte_text (255 ∷ []) ≡ codes "%FF") × (byte_text [] ≡ codes "%")
byte_texts = (refl, refl, refl, refl)

-- a name ends before the first zero, and is filled up with zeros
pub names : (name_in (98 ∷ 97 ∷ 0 ∷ 99 ∷ []) ≡ 98 ∷ 97 ∷ []) × (padded (98 ∷ []) ≡ 98 ∷ 0 ∷ 0 ∷ 0 ∷ 0 ∷ 0 ∷ 0 ∷ 0 ∷ 0 ∷ 0 ∷ 0 ∷ 0 ∷ 0 ∷ 0 ∷ 0 ∷ 0 ∷ [])
names = (refl, refl)

-- where paths are listed: processors, then idle threads, then tids
pub ranks : (rank_of (Cpu 2 1 cpu_leaf.Irq) ≡ 2 ∷ 0 ∷ 1 ∷ 1 ∷ []) × (rank_of (Thread 2 (Idle 1) thread_leaf.Cpu) ≡ 2 ∷ 1 ∷ 1 ∷ 2 ∷ []) × (rank_of (Thread 2 (Tid 1) thread_leaf.Status) ≡ 2 ∷ 2 ∷ 1 ∷ 0 ∷ [])
ranks = (refl, refl, refl)
