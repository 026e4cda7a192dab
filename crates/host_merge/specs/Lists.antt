-- The lists of events from which a merge is made (this project's own).
use Rattle.std.specs.Prelude.{ℕ, ◌≡◌, ◌≢◌, ◌<◌, ◌^◌, Some, List, [], ◌++◌, length, map, slice_get, unwrap_or}
use Rattle.std.specs.List.{AllByRecursion, flat_map}
use Rattle.clock_fraction.specs.declared.pair_map.PairMap.{PairMap}
use Rattle.host_tree.specs.declared.parent.Parent.{Parent}
use Rattle.host_tree.specs.declared.parent.Parent.TheVariants.{Root, Child}
use Rattle.trace_types.specs.declared.event.Merged.{Merged}
use Rattle.trace_types.specs.declared.host.HostEvents.{HostEvents}
use Rattle.host_merge.specs.Merge.{AreBrought, by_key, children_of, with_own_time}

-- all keys lie below the end of time
abbrev pub AreTimed : List Merged → Type 0
AreTimed events = AllByRecursion (λ m. m.key < 2 ^ 62) events

-- the same of each list
abbrev pub AllAreTimed : List (List Merged) → Type 0
AllAreTimed lists = (k : ℕ) (l : List Merged) → slice_get lists k ≡ Some l → AreTimed l

-- each host's own events, with their own times
abbrev pub own_lists : List HostEvents → List (List Merged)
own_lists hosts = map (λ host. map with_own_time host.events.items) hosts

-- the list at a place, sorted
abbrev pub sorted_at : List (List Merged) → ℕ → List Merged
sorted_at lists k = by_key (unwrap_or (slice_get lists k) [])

-- the list has the events of another one too, brought to its clock: its stable order is that of the old one with them at its end
pub record IsJoined (map : PairMap) (events old new : List Merged) : Type 0 where
  pub brought : List Merged
  pub are : AreBrought map events brought
  pub timed : AreTimed brought
  pub in_order : by_key new ≡ by_key (old ++ brought)

-- the sorted list of a host is joined to its parent's
pub record IsBroughtUp (host parent : ℕ) (map : PairMap) (old new : List (List Merged)) : Type 0 where
  pub count : length new ≡ length old
  pub emptied : slice_get new host ≡ Some []
  pub joined : (l m : List Merged) → slice_get old host ≡ Some l → slice_get old parent ≡ Some m → (n : List Merged) × (slice_get new parent ≡ Some n) × IsJoined map (by_key l) m n
  pub others : (k : ℕ) → k ≢ host → k ≢ parent → slice_get new k ≡ slice_get old k

-- the lists of the roots, sorted, have all that stands below them
pub record AreBroughtUp (parents : List Parent) (old new : List (List Merged)) : Type 0 where
  pub lists : ℕ → List Merged
  pub brought : ℕ → List Merged
  pub count : length new ≡ length old
  pub of_host : (u : ℕ) (l : List Merged) → slice_get old u ≡ Some l → lists u ≡ by_key (l ++ flat_map brought (children_of parents u))
  pub moved : (child parent : ℕ) (map : PairMap) → slice_get parents child ≡ Some (Child parent map) → AreBrought map (lists child) (brought child)
  pub ready : (u : ℕ) → slice_get parents u ≡ Some Root → sorted_at new u ≡ lists u
