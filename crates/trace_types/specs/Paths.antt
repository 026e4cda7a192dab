-- Attribute paths as texts, and the order in which they are listed (this project's own format).
use Rattle.std.specs.Prelude.{◌≡◌, ◌<◌, ◌≤◌, ◌^◌, ℕ, List, [], ◌∷◌, ◌++◌, codes}
use Rattle.std.specs.Fmt.{decimal}
use Rattle.trace_types.specs.declared.path.Path.{Path as AttributePath}
use Rattle.trace_types.specs.declared.path.Path.TheVariants.{Cpu, Thread}
use Rattle.trace_types.specs.declared.path.ThreadKey.{ThreadKey}
use Rattle.trace_types.specs.declared.path.ThreadKey.TheVariants.{Idle, Tid}
use Rattle.trace_types.specs.declared.path.CpuLeaf.{CpuLeaf}
use Rattle.trace_types.specs.declared.path.CpuLeaf.TheVariants as cpu_leaf
use Rattle.trace_types.specs.declared.path.ThreadLeaf.{ThreadLeaf}
use Rattle.trace_types.specs.declared.path.ThreadLeaf.TheVariants as thread_leaf

-- a thread: its tid, or 0_ and the processor of an idle one
abbrev pub thread_text : ThreadKey → List ℕ
thread_text (Idle cpu) = codes "0_" ++ decimal cpu
thread_text (Tid tid) = decimal tid

abbrev pub cpu_leaf_text : CpuLeaf → List ℕ
cpu_leaf_text cpu_leaf.Thread = codes "Thread"
cpu_leaf_text cpu_leaf.Irq = codes "Irq"
cpu_leaf_text cpu_leaf.Softirq = codes "Softirq"

abbrev pub thread_leaf_text : ThreadLeaf → List ℕ
thread_leaf_text thread_leaf.Status = codes "Status"
thread_leaf_text thread_leaf.Name = codes "Name"
thread_leaf_text thread_leaf.Cpu = codes "Cpu"
thread_leaf_text thread_leaf.Prio = codes "Prio"
thread_leaf_text thread_leaf.Parent = codes "Parent"
thread_leaf_text thread_leaf.Call = codes "Call"

-- a path: its host, whether it is of a processor or of a thread, which one, and the leaf
abbrev pub path_text : AttributePath → List ℕ
path_text (Cpu host cpu leaf) = codes "h" ++ decimal host ++ codes "/Cpu/" ++ decimal cpu ++ codes "/" ++ cpu_leaf_text leaf
path_text (Thread host thread leaf) = codes "h" ++ decimal host ++ codes "/Thread/" ++ thread_text thread ++ codes "/" ++ thread_leaf_text leaf

-- the rank of a leaf among its kind
abbrev pub cpu_leaf_rank : CpuLeaf → ℕ
cpu_leaf_rank cpu_leaf.Thread = 0
cpu_leaf_rank cpu_leaf.Irq = 1
cpu_leaf_rank cpu_leaf.Softirq = 2

abbrev pub thread_leaf_rank : ThreadLeaf → ℕ
thread_leaf_rank thread_leaf.Status = 0
thread_leaf_rank thread_leaf.Name = 1
thread_leaf_rank thread_leaf.Cpu = 2
thread_leaf_rank thread_leaf.Prio = 3
thread_leaf_rank thread_leaf.Parent = 4
thread_leaf_rank thread_leaf.Call = 5

-- where a path is listed, compared from the left: by host, processors before idle threads before tids, by number, by leaf
abbrev pub rank_of : AttributePath → List ℕ
rank_of (Cpu host cpu leaf) = host ∷ 0 ∷ cpu ∷ cpu_leaf_rank leaf ∷ []
rank_of (Thread host (Idle cpu) leaf) = host ∷ 1 ∷ cpu ∷ thread_leaf_rank leaf ∷ []
rank_of (Thread host (Tid tid) leaf) = host ∷ 2 ∷ tid ∷ thread_leaf_rank leaf ∷ []

-- the words of a path, which slashes join after an h
abbrev pub path_words : AttributePath → List (List ℕ)
path_words (Cpu host cpu leaf) = decimal host ∷ codes "Cpu" ∷ decimal cpu ∷ cpu_leaf_text leaf ∷ []
path_words (Thread host thread leaf) = decimal host ∷ codes "Thread" ∷ thread_text thread ∷ thread_leaf_text leaf ∷ []

-- a processor of 32 bits, or a tid from 1 to 2^31 - 1
abbrev pub IsThreadKey : ThreadKey → Type 0
IsThreadKey (Idle cpu) = cpu < 2 ^ 32
IsThreadKey (Tid tid) = (1 ≤ tid) × (tid < 2 ^ 31)

-- a host below 64, and a processor or a thread in its range
abbrev pub IsPath : AttributePath → Type 0
IsPath (Cpu host cpu leaf) = (host < 64) × (cpu < 2 ^ 32)
IsPath (Thread host thread leaf) = (host < 64) × IsThreadKey thread

-- the text is that of the path
pub record SpellsPath (text : List ℕ) (p : AttributePath) : Type 0 where
  pub spelling : text ≡ path_text p
  pub is_path : IsPath p

-- the words are those of the path
pub record ArePathWords (words : List (List ℕ)) (p : AttributePath) : Type 0 where
  pub spelling : words ≡ path_words p
  pub is_path : IsPath p
