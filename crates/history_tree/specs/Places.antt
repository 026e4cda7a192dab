-- Where the intervals of each number are (this project's own).
use Rattle.std.specs.Prelude.{◌≡◌, ◌≢◌, ℕ, ◌<◌, ◌≤◌, List, [], length, slice_index_or, Contains}
use Rattle.history_nodes.specs.declared.interval.Interval.{Interval}
use Rattle.history_tree.specs.declared.places.Place.{Place}

-- what contracts see of one number's places: their list, and how many more there is room for
pub record PlaceList : Type 0 where
  pub places : List Place
  pub spare : ℕ

-- the places of a number with their room; none for a number that has no row
abbrev pub row_at : ℕ → List PlaceList → PlaceList
row_at number rows = slice_index_or rows number (record { places = []; spare = 0 })

-- the places of a number's intervals
abbrev pub places_of : ℕ → List PlaceList → List Place
places_of number rows = (row_at number rows).places

-- the start of a place's interval
abbrev pub start_of : Place → ℕ
start_of place = place.start

-- the place of an interval that a node holds
abbrev pub place_of : Interval → ℕ → Place
place_of i node = record { start = i.start; node = node }

-- each number keeps its places
pub record HaveSame (old new : List PlaceList) : Type 0 where
  pub each : (n : ℕ) → places_of n new ≡ places_of n old

-- each other number keeps its places
pub record OthersHaveSame (number : ℕ) (old new : List PlaceList) : Type 0 where
  pub others : (n : ℕ) → n ≢ number → places_of n new ≡ places_of n old

-- the places before this one begin by an instant, and those from it on don't begin earlier
pub record IsGap (places : List Place) (start at : ℕ) : Type 0 where
  pub bound : at ≤ length places
  pub before : (k : ℕ) (d : Place) → k < at → (slice_index_or places k d).start ≤ start
  pub after : (k : ℕ) (d : Place) → at ≤ k → k < length places → start ≤ (slice_index_or places k d).start

-- this many places begin by an instant, and those after them begin later
pub record IsBegunCount (places : List Place) (t count : ℕ) : Type 0 where
  pub bound : count ≤ length places
  pub begun : (k : ℕ) (d : Place) → k < count → (slice_index_or places k d).start ≤ t
  pub later : (k : ℕ) (d : Place) → count ≤ k → k < length places → t < (slice_index_or places k d).start

-- of the places that begin by an instant one that begins last
pub record IsLatest (places : List Place) (t : ℕ) (place : Place) : Type 0 where
  pub listed : Contains places place
  pub begun : place.start ≤ t
  pub latest : (other : Place) → Contains places other → other.start ≤ t → other.start ≤ place.start
