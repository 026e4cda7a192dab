-- The fit of each pair of hosts.
use Rattle.std.specs.Prelude.{ℕ, ◌≡◌, ◌+◌, ◌*◌, ◌<◌, ◌↔◌, Some, List, length, map, slice_get}
use Rattle.std.specs.List.{filter_map}
use Rattle.message_match.specs.declared.message.Message.{Message}
use Rattle.hull_lines.specs.declared.point.ClockPoint.{ClockPoint}
use Rattle.hull_lines.specs.declared.outcome.Fit.{Fit}
use Rattle.hull_lines.specs.declared.outcome.Fit.TheVariants.{Absent}
use Rattle.hull_lines.specs.Outcomes.{AreCounts, IfAbsent, IfMap, IfRefused, IsAbsent, IsMap, IsMapOf, IsRefusal, LacksPoints}
use Rattle.hull_lines.specs.Slopes.{IsUsable}
use Rattle.host_tree.specs.Points.{lower_point, times_of, upper_point}

-- what comes of lower and upper points: a map exactly where a slope is admissible, the numbers of points exactly where points are missing, and else a contradiction
pub record IsOutcome (lower upper : List ClockPoint) (drift : ℕ) (fit : Fit) : Type 0 where
  pub map : IfMap fit (IsMapOf lower upper drift)
  pub absent : IfAbsent fit (AreCounts lower upper)
  pub refused : IfRefused fit (IsRefusal lower upper drift)
  pub mapped : IsMap fit ↔ IsUsable lower upper drift
  pub lacking : IsAbsent fit ↔ LacksPoints lower upper

-- what comes of the points that the messages give for this parent and this child
pub record IsFitOf (messages : List Message) (drift parent child : ℕ) (fit : Fit) : Type 0 where
  pub lower : List ClockPoint
  pub upper : List ClockPoint
  pub lower_are : map times_of lower ≡ filter_map (lower_point parent child) messages
  pub upper_are : map times_of upper ≡ filter_map (upper_point parent child) messages
  pub outcome : IsOutcome lower upper drift fit

-- the fits of all ordered pairs of hosts, each at the place parent * hosts + child
pub record AreFits (hosts : ℕ) (messages : List Message) (drift : ℕ) (fits : List Fit) : Type 0 where
  pub count : length fits ≡ hosts * hosts
  pub each : (parent child : ℕ) → parent < hosts → child < hosts → (fit : Fit) × (slice_get fits (parent * hosts + child) ≡ Some fit) × IsFitOf messages drift parent child fit

-- no points lie between a host and itself
abbrev pub AreApartFromThemselves : ℕ → List Fit → Type 0
AreApartFromThemselves hosts fits = (host : ℕ) → host < hosts → slice_get fits (host * hosts + host) ≡ Some (Absent 0 0)

-- what comes of the lists at one place of both
abbrev pub AreOutcomes : List (List ClockPoint) → List (List ClockPoint) → ℕ → List Fit → Type 0
AreOutcomes lower upper drift fits = (place : ℕ) (l u : List ClockPoint) → place < length fits → slice_get lower place ≡ Some l → slice_get upper place ≡ Some u → (fit : Fit) × (slice_get fits place ≡ Some fit) × IsOutcome l u drift fit
