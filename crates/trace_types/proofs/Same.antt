-- The derived comparisons tell all paths and all values apart.
use Rattle.std.proofs.Common.{◌≡◌, ℕ, true, rules, refl, ap, arith, List, get_or}
use Rattle.trace_types.specs.declared.path.Path.{Path as AttributePath}
use Rattle.trace_types.specs.declared.path.Path.TheVariants.{Cpu, Thread}
use Rattle.trace_types.specs.declared.path.ThreadKey.TheVariants.{Idle, Tid}
use Rattle.trace_types.specs.declared.path.CpuLeaf.{CpuLeaf}
use Rattle.trace_types.specs.declared.path.CpuLeaf.TheVariants as cpu_leaf
use Rattle.trace_types.specs.declared.path.ThreadLeaf.{ThreadLeaf}
use Rattle.trace_types.specs.declared.path.ThreadLeaf.TheVariants as thread_leaf
use Rattle.trace_types.specs.Paths.{rank_of, cpu_leaf_rank, thread_leaf_rank}
use Rattle.trace_types.specs.declared.value.Value.{Value}
use Rattle.trace_types.specs.Same.{same_path, same_value}

pub path_is : (p q : AttributePath) → same_path p q ≡ true → p ≡ q
path_is p q h = search rules

pub path_itself : (p : AttributePath) → same_path p p ≡ true
path_itself p = search rules

pub value_is : (v w : Value) → same_value v w ≡ true → v ≡ w
value_is v w h = search rules

pub value_itself : (v : Value) → same_value v v ≡ true
value_itself v = search rules

cpu_leaf_is : (l m : CpuLeaf) → cpu_leaf_rank l ≡ cpu_leaf_rank m → l ≡ m
cpu_leaf_is cpu_leaf.Thread cpu_leaf.Thread e = refl
cpu_leaf_is cpu_leaf.Irq cpu_leaf.Irq e = refl
cpu_leaf_is cpu_leaf.Softirq cpu_leaf.Softirq e = refl
cpu_leaf_is l m e = absurd (omega arith)

thread_leaf_is : (l m : ThreadLeaf) → thread_leaf_rank l ≡ thread_leaf_rank m → l ≡ m
thread_leaf_is thread_leaf.Status thread_leaf.Status e = refl
thread_leaf_is thread_leaf.Name thread_leaf.Name e = refl
thread_leaf_is thread_leaf.Cpu thread_leaf.Cpu e = refl
thread_leaf_is thread_leaf.Prio thread_leaf.Prio e = refl
thread_leaf_is thread_leaf.Parent thread_leaf.Parent e = refl
thread_leaf_is thread_leaf.Call thread_leaf.Call e = refl
thread_leaf_is l m e = absurd (omega arith)

kind : {xs ys : List ℕ} → xs ≡ ys → get_or xs 1 0 ≡ get_or ys 1 0
kind e = ap (λ l. get_or l 1 0) e

-- no two paths have one rank
pub path_from_rank : (p q : AttributePath) → rank_of p ≡ rank_of q → p ≡ q
path_from_rank (Cpu h c l) (Cpu g d m) e = let k : l ≡ m = cpu_leaf_is l m (cc) in cc
path_from_rank (Thread h (Idle c) l) (Thread g (Idle d) m) e = let k : l ≡ m = thread_leaf_is l m (cc) in cc
path_from_rank (Thread h (Tid c) l) (Thread g (Tid d) m) e = let k : l ≡ m = thread_leaf_is l m (cc) in cc
path_from_rank (Cpu h c l) (Thread g (Idle d) m) e = absurd (omega (arith, kind e))
path_from_rank (Cpu h c l) (Thread g (Tid d) m) e = absurd (omega (arith, kind e))
path_from_rank (Thread h (Idle c) l) (Cpu g d m) e = absurd (omega (arith, kind e))
path_from_rank (Thread h (Idle c) l) (Thread g (Tid d) m) e = absurd (omega (arith, kind e))
path_from_rank (Thread h (Tid c) l) (Cpu g d m) e = absurd (omega (arith, kind e))
path_from_rank (Thread h (Tid c) l) (Thread g (Idle d) m) e = absurd (omega (arith, kind e))
