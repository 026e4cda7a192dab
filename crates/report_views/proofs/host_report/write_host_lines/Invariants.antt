use Rattle.std.proofs.Common.{◌≡◌, ◌++◌, take}
use Rattle.std.specs.Prelude.{flat_map}
use Rattle.report_views.specs.Report.{host_line}
use Rattle.report_views.proofs.host_report.write_host_lines.Given as goal

abbrev pub invariant-loop-host : goal.invariant-loop-host
invariant-loop-host l = l.out.items ≡ l.initial.out.items ++ flat_map host_line (take l.host-index l.hosts)
