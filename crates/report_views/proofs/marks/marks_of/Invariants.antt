use Rattle.std.proofs.Common.{◌≡◌, ◌≤◌, ◌^◌, ◌*◌, take}
use Rattle.report_views.specs.Report.{mark_count, mark_sum}
use Rattle.report_views.proofs.marks.marks_of.Given as goal

abbrev pub invariant-loop-event : goal.invariant-loop-event
invariant-loop-event l = (l.count ≡ mark_count (take l.event-index l.events)) × (l.sum ≡ mark_sum (take l.event-index l.events)) × (l.count ≤ l.event-index) × (l.sum ≤ l.event-index * 2 ^ 64)
