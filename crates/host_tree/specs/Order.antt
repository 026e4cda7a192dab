-- The forest as it grows by hand: the roots ascending, and each tree over the hosts that no earlier one holds (this project's own).
use Rattle.std.specs.Prelude.{ℕ, zero, suc, ◌≡◌, ◌<◌, ◌≤◌, ◌↔◌, Some, List, slice_get}
use Rattle.hull_lines.specs.declared.outcome.Fit.{Fit}
use Rattle.host_tree.specs.declared.parent.Parent.{Parent}
use Rattle.host_tree.specs.declared.parent.Parent.TheVariants.{Root, Child}
use Rattle.host_tree.specs.Forest.{AreParents, IsLevelOf, IsRootOf, IsUsablePair, Leads}

-- a chain of so many usable pairs leads from one host to another, over hosts of a kind
abbrev pub LeadsOver : (ℕ → ℕ → Type 0) → (ℕ → Type 0) → ℕ → ℕ → ℕ → Type 0
LeadsOver Usable Kind start zero host = (start ≡ host) × Kind host
LeadsOver Usable Kind start (suc n) host = (parent : ℕ) × LeadsOver Usable Kind start n parent × Usable parent host × Kind host

module _ (hosts : ℕ) (fits : List Fit) where
  -- no tree of an earlier root holds the host
  abbrev pub IsFree : ℕ → ℕ → Type 0
  IsFree root host = (earlier : ℕ) → earlier < root → ¬ IsRootOf (IsUsablePair hosts fits) earlier host

  -- the roots in their order, the hosts of their trees, and the levels of these
  pub record AreInOrder (parents : List Parent) : Type 0 where
    -- the roots are the hosts that no earlier root's tree holds
    pub roots : (host : ℕ) → host < hosts → (slice_get parents host ≡ Some Root) ↔ IsFree host host
    -- a root's tree holds the hosts to which a chain leads over hosts that no earlier tree holds
    pub trees : (root host : ℕ) → slice_get parents root ≡ Some Root → IsRootOf (IsUsablePair hosts fits) root host ↔ ((n : ℕ) × LeadsOver (IsUsablePair hosts fits) (IsFree root) root n host)
    -- and all chains from its root to a host are over such hosts, so the levels are those of these chains
    pub levels : (root host n : ℕ) → IsRootOf (IsUsablePair hosts fits) root host → Leads (IsUsablePair hosts fits) root n host ↔ LeadsOver (IsUsablePair hosts fits) (IsFree root) root n host
    -- the next level holds each host that has no place yet and is usable from a host of this level
    pub next : (root level parent host : ℕ) → IsLevelOf (IsUsablePair hosts fits) root level parent → IsUsablePair hosts fits parent host → IsFree root host → ((n : ℕ) → n ≤ level → ¬ Leads (IsUsablePair hosts fits) root n host)
        → IsRootOf (IsUsablePair hosts fits) root host × IsLevelOf (IsUsablePair hosts fits) root (suc level) host

-- each forest is in this order
abbrev pub AllAreInOrder : Type 0
AllAreInOrder = (hosts : ℕ) (fits : List Fit) (parents : List Parent) → AreParents hosts fits parents → AreInOrder hosts fits parents

-- the two lists of fits have maps at the same pairs
abbrev pub HaveSamePairs : ℕ → List Fit → List Fit → Type 0
HaveSamePairs hosts fits others = (parent child : ℕ) → IsUsablePair hosts fits parent child ↔ IsUsablePair hosts others parent child

-- both are roots, or have parents of one number
abbrev pub IsSameParent : Parent → Parent → Type 0
IsSameParent Root Root = Unit {0}
IsSameParent Root (Child q n) = ⊥
IsSameParent (Child p m) Root = ⊥
IsSameParent (Child p m) (Child q n) = p ≡ q

-- the pairs that have maps determine the parents
abbrev pub PairsDetermineParents : Type 0
PairsDetermineParents = (hosts : ℕ) (fits others : List Fit) (parents more : List Parent) → HaveSamePairs hosts fits others → AreParents hosts fits parents → AreParents hosts others more
    → (host : ℕ) (p q : Parent) → slice_get parents host ≡ Some p → slice_get more host ≡ Some q → IsSameParent p q

-- fits have one forest
abbrev pub HaveOneForest : Type 0
HaveOneForest = (hosts : ℕ) (fits : List Fit) (parents others : List Parent) → AreParents hosts fits parents → AreParents hosts fits others → parents ≡ others
