-- What is known of the forest while it grows: tree by tree, and level by level.
use Rattle.std.specs.Prelude.{ℕ, ◌≡◌, ◌+◌, ◌*◌, ◌<◌, ◌⊎◌, Option, None, Some, List, length, slice_get}
use Rattle.hull_lines.specs.declared.outcome.Fit.{Fit}
use Rattle.hull_lines.specs.declared.outcome.Fit.TheVariants.{Map}
use Rattle.clock_fraction.specs.declared.pair_map.PairMap.{PairMap}
use Rattle.host_tree.specs.declared.parent.Parent.TheVariants.{Child}
use Rattle.host_tree.specs.declared.place.Place.{Place}
use Rattle.host_tree.specs.Forest.{IsPlaced, IsUsablePair, Leads}

module _ (hosts : ℕ) (fits : List Fit) where
  -- no chain leads to the host from an earlier root, nor one of fewer pairs from this one
  pub record IsBeyond (root level host : ℕ) : Type 0 where
    pub earlier : (start n : ℕ) → start < root → ¬ Leads (IsUsablePair hosts fits) start n host
    pub shorter : (n : ℕ) → n < level → ¬ Leads (IsUsablePair hosts fits) root n host

  -- the host is not usable from those of the level that are less than this one
  abbrev pub IsPassed : ℕ → ℕ → ℕ → ℕ → Type 0
  IsPassed root level parent host = (p : ℕ) → p < parent → Leads (IsUsablePair hosts fits) root level p → ¬ IsUsablePair hosts fits p host

  -- the place is in the tree of an earlier root, or below this level of this one's
  abbrev pub IsWithin : ℕ → ℕ → Place → Type 0
  IsWithin root level place = (place.root < root) ⊎ ((place.root ≡ root) × (place.level < level))

  -- of the tree of this root the hosts below this level have their places, and of earlier trees all have; no other host has one
  pub record AreGrown (root level : ℕ) (places : List (Option Place)) : Type 0 where
    pub count : length places ≡ hosts
    pub known : (host : ℕ) (place : Place) → slice_get places host ≡ Some (Some place) → IsPlaced hosts fits host place.root place.level place.parent × IsWithin root level place
    pub unknown : (host : ℕ) → slice_get places host ≡ Some None → IsBeyond root level host

  -- the same of the next level, whose hosts have their places where they are usable from a host of this level that is less than `parent`
  pub record AreScanned (root level parent : ℕ) (places : List (Option Place)) : Type 0 where
    pub count : length places ≡ hosts
    pub known : (host : ℕ) (place : Place) → slice_get places host ≡ Some (Some place) → IsPlaced hosts fits host place.root place.level place.parent × IsWithin root (level + 2) place
    pub unknown : (host : ℕ) → slice_get places host ≡ Some None → IsBeyond root (level + 1) host × IsPassed root level parent host

  -- the hosts that had no place and are usable from the parent have one under it now
  pub record AreUnder (root level parent : ℕ) (old new : List (Option Place)) : Type 0 where
    pub count : length new ≡ length old
    pub kept : (host : ℕ) (place : Place) → slice_get old host ≡ Some (Some place) → slice_get new host ≡ Some (Some place)
    pub added : (host : ℕ) (map : PairMap) → host < hosts → slice_get old host ≡ Some None → slice_get fits (parent * hosts + host) ≡ Some (Map map) → slice_get new host ≡ Some (Some (record { root = root; level = level; parent = Child parent map }))
    pub left : (host : ℕ) → slice_get old host ≡ Some None → ¬ IsUsablePair hosts fits parent host → slice_get new host ≡ Some None
