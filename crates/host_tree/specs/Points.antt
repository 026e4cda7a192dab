-- The points between the clocks of a parent and a child, which the messages between them give (after Duda, Harrus, Haddad and
-- Bernard 1987, "Estimating global time in distributed systems").
use Rattle.std.specs.Prelude.{ℕ, ◌≢◌, ◌-◌, ◌^◌, ◌<◌, ◌≤◌, ◌&&◌, ◌==◌, if◌then◌else◌, Option, None, Some}
use Rattle.message_match.specs.declared.message.Message.{Message}
use Rattle.hull_lines.specs.declared.point.ClockPoint.{ClockPoint}

-- the message goes between two of so many hosts, and its times are those of events
pub record IsBetween (hosts : ℕ) (m : Message) : Type 0 where
  pub from_in : m.from < hosts
  pub to_in : m.to < hosts
  pub apart : m.from ≢ m.to
  pub sent_after : 1 ≤ m.sent
  pub sent_before : m.sent < 2 ^ 62
  pub received_after : 1 ≤ m.received
  pub received_before : m.received < 2 ^ 62

-- the times of a point on the child's clock and on the parent's
abbrev pub times_of : ClockPoint → ℕ × ℕ
times_of point = (point.x, point.y)

-- the lower point: what went from the parent to the child was received there at the first time, and sent here at the second
abbrev pub lower_point : ℕ → ℕ → Message → Option (ℕ × ℕ)
lower_point parent child m = if (m.from == parent) && (m.to == child) then Some (m.received, m.sent) else None

-- the upper point: what went from the child to the parent was sent there at the first time, and not yet received here at the second
abbrev pub upper_point : ℕ → ℕ → Message → Option (ℕ × ℕ)
upper_point parent child m = if (m.from == child) && (m.to == parent) then Some (m.sent, m.received - 1) else None
