-- The points of all messages, pair by pair.
use Rattle.std.specs.Prelude.{ℕ, ◌≡◌, ◌+◌, ◌*◌, ◌<◌, ◌&&◌, ◌==◌, if◌then◌else◌, Option, None, Some, List, length, map, slice_get}
use Rattle.std.specs.List.{filter_map}
use Rattle.message_match.specs.declared.message.Message.{Message}
use Rattle.hull_lines.specs.declared.point.ClockPoint.{ClockPoint}
use Rattle.host_tree.specs.declared.points.PairPoint.{PairPoint}
use Rattle.host_tree.specs.declared.points.Side.{Side}
use Rattle.host_tree.specs.declared.points.Side.TheVariants.{Lower, Upper}
use Rattle.host_tree.specs.Points.{lower_point, times_of, upper_point}

-- the point on this side that a message gives for a parent and a child
abbrev pub point_on : Side → ℕ → ℕ → Message → Option (ℕ × ℕ)
point_on Lower = lower_point
point_on Upper = upper_point

-- the point that a message gives for one pair, and no other
pub record IsPointOf (side : Side) (m : Message) (p : PairPoint) : Type 0 where
  pub for_pair : (parent child : ℕ) → point_on side parent child m ≡ (if (p.parent == parent) && (p.child == child) then Some (times_of p.point) else None)

-- each pair's points stand at the place parent * hosts + child, in the order of the messages
pub record AreGathered (side : Side) (hosts : ℕ) (messages : List Message) (lists : List (List ClockPoint)) : Type 0 where
  pub count : length lists ≡ hosts * hosts
  pub each : (parent child : ℕ) → parent < hosts → child < hosts → (points : List ClockPoint) × (slice_get lists (parent * hosts + child) ≡ Some points) × (map times_of points ≡ filter_map (point_on side parent child) messages)
