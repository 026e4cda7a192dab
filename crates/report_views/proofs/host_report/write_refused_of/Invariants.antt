use Rattle.std.proofs.Common.{◌≡◌, ◌++◌, take}
use Rattle.std.specs.Prelude.{flat_map}
use Rattle.report_views.specs.Report.{refused_line}
use Rattle.report_views.proofs.host_report.write_refused_of.Given as goal

abbrev pub invariant-loop-packet : goal.invariant-loop-packet
invariant-loop-packet l = l.out.items ≡ l.initial.out.items ++ flat_map (refused_line l.host) (take l.packet-index l.refused)
