-- The place that is kept of a path: its owner's row, and the leaf's place in that row (this project's own).
use Rattle.std.specs.Prelude.{◌≡◌, ℕ, ◌/◌, ◌%◌, List, [], ◌∷◌, ◌++◌, Option, None, Some, IsSome, option_map, option_to_list, slice_get}
use Rattle.std.specs.List.{AllByRecursion}
use Rattle.trace_types.specs.declared.path.Path.{Path as AttributePath}
use Rattle.trace_types.specs.declared.path.Path.TheVariants as path
use Rattle.trace_types.specs.declared.path.ThreadKey.TheVariants as thread
use Rattle.trace_types.specs.declared.path.CpuLeaf.{CpuLeaf}
use Rattle.trace_types.specs.declared.path.CpuLeaf.TheVariants as cpu_leaf
use Rattle.trace_types.specs.declared.path.ThreadLeaf.{ThreadLeaf}
use Rattle.trace_types.specs.declared.path.ThreadLeaf.TheVariants as thread_leaf
use Rattle.attribute_tree.specs.declared.owner.Owner.{Owner}
use Rattle.attribute_tree.specs.declared.owner.Owner.TheVariants.{Cpu, Idle, Thread}
use Rattle.attribute_tree.specs.declared.prefix.Prefix.{Prefix}
use Rattle.attribute_tree.specs.declared.rows.Row.{Row}
use Rattle.attribute_tree.specs.Links.{LinkLists}
use Rattle.attribute_tree.specs.Fronts.{AreKept}

-- the leaves of a processor, by their ranks
abbrev pub cpu_leaves : List CpuLeaf
cpu_leaves = cpu_leaf.Thread ∷ cpu_leaf.Irq ∷ cpu_leaf.Softirq ∷ []

-- the leaves of a thread, by their ranks
abbrev pub thread_leaves : List ThreadLeaf
thread_leaves = thread_leaf.Status ∷ thread_leaf.Name ∷ thread_leaf.Cpu ∷ thread_leaf.Prio ∷ thread_leaf.Parent ∷ thread_leaf.Call ∷ []

-- the path of an owner's leaf, and none where the owner has no such leaf
abbrev pub leaf_path : Owner → ℕ → Option AttributePath
leaf_path (Cpu host cpu) leaf = option_map (λ l. path.Cpu host cpu l) (slice_get cpu_leaves leaf)
leaf_path (Idle host cpu) leaf = option_map (λ l. path.Thread host (thread.Idle cpu) l) (slice_get thread_leaves leaf)
leaf_path (Thread host tid) leaf = option_map (λ l. path.Thread host (thread.Tid tid) l) (slice_get thread_leaves leaf)

-- the path of the leaf of an owner that may be lacking
abbrev pub leaf_path_of : Option Owner → ℕ → Option AttributePath
leaf_path_of None leaf = None
leaf_path_of (Some o) leaf = leaf_path o leaf

-- the path that a place tells, by the owners of the rows: a row takes eight places, one for each leaf and some to spare
abbrev pub path_at : List Owner → ℕ → Option AttributePath
path_at owners place = leaf_path_of (slice_get owners (place / 8)) (place % 8)

-- the paths that places tell, one after the other
abbrev pub paths_at : List Owner → List ℕ → List AttributePath
paths_at owners [] = []
paths_at owners (p ∷ ps) = option_to_list (path_at owners p) ++ paths_at owners ps

-- each place tells a path
abbrev pub AreTold : List Owner → List ℕ → Type 0
AreTold owners places = AllByRecursion (λ p. IsSome (path_at owners p)) places

-- what is kept of paths, which are those that places tell
pub record AreStored (owners : List Owner) (places : List ℕ) (rows : Owner → Option Row) (noted : Prefix → Option ℕ) (links : LinkLists) : Type 0 where
  pub told : AreTold owners places
  pub kept : AreKept (paths_at owners places) rows noted links

-- the owners begin with these
abbrev pub BeginWith : List Owner → List Owner → Type 0
BeginWith first owners = (more : List Owner) × (owners ≡ first ++ more)
