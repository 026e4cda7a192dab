use Rattle.std.proofs.Common.{take}
use Rattle.event_list.specs.Names.{names_at}
use Rattle.report_views.specs.Stretches.{IsStretchText}
use Rattle.report_views.proofs.events.write_stretch.Given as goal

abbrev pub invariant-loop-event : goal.invariant-loop-event
invariant-loop-event l = IsStretchText (names_at l.fn.names) (take l.event-index l.fn.events) l.text.items
