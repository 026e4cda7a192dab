-- What a forest's parents have besides: each host's way up ends at a root (this project's own).
use Rattle.std.specs.Prelude.{ℕ, zero, suc, ◌≡◌, ◌<◌, Some, List, length, slice_get}
use Rattle.clock_fraction.specs.declared.pair_map.PairMap.{PairMap}
use Rattle.host_tree.specs.declared.parent.Parent.{Parent}
use Rattle.host_tree.specs.declared.parent.Parent.TheVariants.{Root, Child}

-- so many parents stand above the host, the last of which is a root
abbrev pub IsAtDepth : List Parent → ℕ → ℕ → Type 0
IsAtDepth parents zero host = slice_get parents host ≡ Some Root
IsAtDepth parents (suc n) host = (parent : ℕ) × (map : PairMap) × (slice_get parents host ≡ Some (Child parent map)) × IsAtDepth parents n parent

-- each host's parents lead to a root
abbrev pub LeadToRoots : List Parent → Type 0
LeadToRoots parents = (host : ℕ) → host < length parents → (n : ℕ) × IsAtDepth parents n host
