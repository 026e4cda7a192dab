-- The rows of processors and threads: a row has the node, and a place for each of the leaves (this project's own).
use Rattle.std.specs.Prelude.{◌≡◌, ℕ, zero, suc, Bool, List, Option, None, Some, get_or}
use Rattle.trace_types.specs.declared.path.Path.{Path as AttributePath}
use Rattle.trace_types.specs.declared.path.Path.TheVariants as path
use Rattle.trace_types.specs.declared.path.ThreadKey.{ThreadKey}
use Rattle.trace_types.specs.declared.path.ThreadKey.TheVariants as thread
use Rattle.trace_types.specs.Paths.{cpu_leaf_rank, thread_leaf_rank}
use Rattle.attribute_tree.specs.declared.owner.Owner.{Owner}
use Rattle.attribute_tree.specs.declared.owner.Owner.TheVariants.{Cpu, Idle, Thread}
use Rattle.attribute_tree.specs.declared.rows.Row.{Row}
use Rattle.attribute_tree.specs.contracts.owner.OwnerPartialEq.TheImpl as owner
use Rattle.attribute_tree.specs.Numbered.{number_among}

-- the comparison that owners derive, which tells all of them apart
abbrev pub same_owner : Owner → Owner → Bool
same_owner = owner.ghosts.eq

-- a host's thread
abbrev pub thread_of : ℕ → ThreadKey → Owner
thread_of host (thread.Idle cpu) = Idle host cpu
thread_of host (thread.Tid tid) = Thread host tid

-- the processor or the thread that a path is of
abbrev pub owner_of : AttributePath → Owner
owner_of (path.Cpu host cpu leaf) = Cpu host cpu
owner_of (path.Thread host key leaf) = thread_of host key

-- the place of a path's leaf in its owner's row
abbrev pub leaf_of : AttributePath → ℕ
leaf_of (path.Cpu host cpu leaf) = cpu_leaf_rank leaf
leaf_of (path.Thread host thread leaf) = thread_leaf_rank leaf

-- what a place of a row says: 0 that the leaf has no number, and else one more than its number
abbrev pub number_said : ℕ → Option ℕ
number_said zero = None
number_said (suc n) = Some n

-- the number of a leaf in a row, and none where there is no row
abbrev pub number_in : Option Row → ℕ → Option ℕ
number_in None leaf = None
number_in (Some row) leaf = number_said (get_or row.numbers leaf 0)

-- the node in a row, and none where there is no row
abbrev pub node_in : Option Row → Option ℕ
node_in None = None
node_in (Some row) = Some row.node

-- the number that rows have for a path
abbrev pub number_by : (Owner → Option Row) → AttributePath → Option ℕ
number_by rows p = number_in (rows (owner_of p)) (leaf_of p)

-- the rows have the number of each of the paths, and no other
abbrev pub AreRows : (Owner → Option Row) → List AttributePath → Type 0
AreRows rows paths = (p : AttributePath) → number_by rows p ≡ number_among paths p
