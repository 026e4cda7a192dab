-- The forest of hosts: whose clock the times of each host are brought to (this project's own; breadth-first from the least host on).
use Rattle.std.specs.Prelude.{ℕ, zero, suc, ◌≡◌, ◌+◌, ◌*◌, ◌<◌, ◌≤◌, Some, List, length, slice_get}
use Rattle.clock_fraction.specs.declared.pair_map.PairMap.{PairMap}
use Rattle.hull_lines.specs.declared.outcome.Fit.{Fit}
use Rattle.hull_lines.specs.declared.outcome.Fit.TheVariants.{Map}
use Rattle.host_tree.specs.declared.parent.Parent.{Parent}
use Rattle.host_tree.specs.declared.parent.Parent.TheVariants.{Root, Child}

-- the fit of the two hosts is a map, which takes the child's times to the parent's clock
pub record IsUsablePair (hosts : ℕ) (fits : List Fit) (parent child : ℕ) : Type 0 where
  pub parent_in : parent < hosts
  pub child_in : child < hosts
  pub map : PairMap
  pub fit : slice_get fits (parent * hosts + child) ≡ Some (Map map)

-- n is the least number of this kind
pub record IsLeast (P : ℕ → Type 0) (n : ℕ) : Type 0 where
  pub here : P n
  pub least : (m : ℕ) → P m → n ≤ m

module _ (Usable : ℕ → ℕ → Type 0) where
  -- a chain of so many usable pairs leads from one host to another
  abbrev pub Leads : ℕ → ℕ → ℕ → Type 0
  Leads start zero host = start ≡ host
  Leads start (suc n) host = (parent : ℕ) × Leads start n parent × Usable parent host

  -- the root of a host's tree: the least host from which a chain leads to it
  abbrev pub IsRootOf : ℕ → ℕ → Type 0
  IsRootOf root host = IsLeast (λ start. (n : ℕ) × Leads start n host) root

  -- the host's level in its tree: the least number of pairs that lead to it from the root
  abbrev pub IsLevelOf : ℕ → ℕ → ℕ → Type 0
  IsLevelOf root level host = IsLeast (λ n. Leads root n host) level

  -- the least host of a level from which this one is usable
  abbrev pub IsLeastParent : ℕ → ℕ → ℕ → ℕ → Type 0
  IsLeastParent root level host parent = IsLeast (λ p. Leads root level p × Usable p host) parent

module _ (hosts : ℕ) (fits : List Fit) where
  -- a host of this level has this parent: it is the root, or the parent is the least host of the level above that it is usable from
  abbrev pub IsParentAt : ℕ → ℕ → ℕ → Parent → Type 0
  IsParentAt root level host Root = root ≡ host
  IsParentAt root level host (Child parent map) = (above : ℕ) × (level ≡ suc above) × IsLeastParent (IsUsablePair hosts fits) root above host parent × (slice_get fits (parent * hosts + host) ≡ Some (Map map))

  -- the host stands at this level of the tree of this root, and has this parent
  pub record IsPlaced (host root level : ℕ) (parent : Parent) : Type 0 where
    pub root_is : IsRootOf (IsUsablePair hosts fits) root host
    pub level_is : IsLevelOf (IsUsablePair hosts fits) root level host
    pub parent_is : IsParentAt root level host parent

  -- the parents of all hosts
  pub record AreParents (parents : List Parent) : Type 0 where
    pub count : length parents ≡ hosts
    pub each : (host : ℕ) (parent : Parent) → slice_get parents host ≡ Some parent → (root : ℕ) × (level : ℕ) × IsPlaced host root level parent
