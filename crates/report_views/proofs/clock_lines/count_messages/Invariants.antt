use Rattle.std.proofs.Common.{take}
use Rattle.report_views.specs.Report.{AreCounted}
use Rattle.report_views.proofs.clock_lines.count_messages.Given as goal

abbrev pub invariant-loop-message : goal.invariant-loop-message
invariant-loop-message l = AreCounted l.hosts (take l.message-index l.matched) l.counts.items
