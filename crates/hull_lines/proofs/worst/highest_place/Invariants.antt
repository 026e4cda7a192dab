use Rattle.std.proofs.Common.{◌≡◌, ◌<◌, ◌≤◌, Some, length}
use Rattle.std.specs.Prelude.{slice_get}
use Rattle.std.specs.List.{AllWithin}
use Rattle.hull_lines.specs.declared.point.ClockPoint.{ClockPoint}
use Rattle.hull_lines.specs.Worst.{IsNotHigher}
use Rattle.hull_lines.proofs.worst.highest_place.Given as goal

abbrev pub invariant-loop-at : goal.invariant-loop-at
invariant-loop-at l = (l.place < length l.points) × (1 ≤ l.at) × ((best : ClockPoint) → slice_get l.points l.place ≡ Some best → AllWithin (λ v. IsNotHigher l.slope v best) l.points 0 l.at)
