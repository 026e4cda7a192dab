-- The merge of hosts' events over a forest (this project's own).
use Rattle.std.specs.Prelude.{ℕ, ◌≡◌, ◌<◌, ◌^◌, ◌==◌, Bool, true, false, Option, None, Some, List, [], ◌∷◌, ◌++◌, length, map, filter, slice_get}
use Rattle.std.specs.List.{flat_map, range_with_len}
use Rattle.clock_fraction.specs.ClockMap.{IsMapAt}
use Rattle.clock_fraction.specs.declared.pair_map.PairMap.{PairMap}
use Rattle.host_tree.specs.declared.parent.Parent.{Parent}
use Rattle.host_tree.specs.declared.parent.Parent.TheVariants.{Root, Child}
use Rattle.stable_sort.specs.Sorted.{sorted}
use Rattle.trace_types.specs.declared.event.Event.{Event}
use Rattle.trace_types.specs.declared.event.Merged.{Merged}
use Rattle.trace_types.specs.declared.host.HostEvents.{HostEvents}

-- an event with its own time as its key
abbrev pub with_own_time : Event → Merged
with_own_time e = record { key = e.time; event = e }

-- events in a stable order of their keys
abbrev pub by_key : List Merged → List Merged
by_key events = sorted (λ m. m.key) events

-- the same events in the same order, each with its key brought to another clock
abbrev pub AreBrought : PairMap → List Merged → List Merged → Type 0
AreBrought map [] [] = Unit {0}
AreBrought map [] (y ∷ ys) = ⊥
AreBrought map (x ∷ xs) [] = ⊥
AreBrought map (x ∷ xs) (y ∷ ys) = (y.event ≡ x.event) × IsMapAt map x.key y.key × AreBrought map xs ys

-- whether the parent is this host
abbrev pub is_parent : ℕ → Option Parent → Bool
is_parent host None = false
is_parent host (Some Root) = false
is_parent host (Some (Child parent map)) = parent == host

-- whether this is a root
abbrev pub is_root : Option Parent → Bool
is_root None = false
is_root (Some Root) = true
is_root (Some (Child parent map)) = false

-- of the hosts below a number, the children of a host, ascending
abbrev pub children_below : List Parent → ℕ → ℕ → List ℕ
children_below parents host bound = filter (λ c. is_parent host (slice_get parents c)) (range_with_len 0 bound)

-- the children of a host, ascending
abbrev pub children_of : List Parent → ℕ → List ℕ
children_of parents host = children_below parents host (length parents)

-- of the hosts below a number, the roots, ascending
abbrev pub roots_below : List Parent → ℕ → List ℕ
roots_below parents bound = filter (λ c. is_root (slice_get parents c)) (range_with_len 0 bound)

-- the roots, ascending
abbrev pub roots_of : List Parent → List ℕ
roots_of parents = roots_below parents (length parents)

-- each host has a merged list, of its own events with their own times and of its children's lists, each brought to its clock; the merge is that of the roots' lists
pub record IsMergeOf (parents : List Parent) (hosts : List HostEvents) (merged : List Merged) : Type 0 where
  pub lists : ℕ → List Merged
  pub brought : ℕ → List Merged
  pub of_host : (u : ℕ) (host : HostEvents) → slice_get hosts u ≡ Some host → lists u ≡ by_key (map with_own_time host.events.items ++ flat_map brought (children_of parents u))
  pub moved : (child parent : ℕ) (map : PairMap) → slice_get parents child ≡ Some (Child parent map) → AreBrought map (lists child) (brought child)
  pub whole : merged ≡ by_key (flat_map lists (roots_of parents))

-- all times lie below the end of time
pub record HaveTimes (hosts : List HostEvents) : Type 0 where
  pub below : (u k : ℕ) (host : HostEvents) (event : Event) → slice_get hosts u ≡ Some host → slice_get host.events.items k ≡ Some event → event.time < 2 ^ 62
