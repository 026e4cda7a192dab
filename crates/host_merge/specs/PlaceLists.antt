-- The places of each host's events.
use Rattle.std.specs.Prelude.{ℕ, ◌≡◌, ◌<◌, Some, List, length, count_by, slice_get, take}
use Rattle.trace_types.specs.declared.event.Merged.{Merged}
use Rattle.host_merge.specs.Placed.{IsAt, is_of}

-- the list has the places of a host's events, as far as they stand among so many first ones
pub record IsPlaceList (merged : List Merged) (bound host : ℕ) (places : List ℕ) : Type 0 where
  pub count : length places ≡ count_by (is_of host) (take bound merged)
  pub each : (number place : ℕ) → slice_get places number ≡ Some place → IsAt merged host number place

-- the same of each host
pub record ArePlaceLists (merged : List Merged) (bound : ℕ) (lists : List (List ℕ)) : Type 0 where
  pub count : length lists ≡ 64
  pub each : (host : ℕ) → host < 64 → (places : List ℕ) × (slice_get lists host ≡ Some places) × IsPlaceList merged bound host places
