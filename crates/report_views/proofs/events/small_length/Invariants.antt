use Rattle.std.proofs.Common.{◌≡◌, ◌<◌, ◌≤◌, ◌^◌, take}
use Rattle.event_list.specs.Names.{names_at}
use Rattle.report_views.specs.Stretches.{printed_size}
use Rattle.report_views.proofs.events.small_length.Given as goal

abbrev pub invariant-loop-count : goal.invariant-loop-count
invariant-loop-count l = record {
  size : l.size ≡ printed_size (names_at l.fn.names) (take l.count l.fn.events);
  below : l.size < 2 ^ 63;
  small : 1 < l.count → l.size ≤ 67108864;
}
