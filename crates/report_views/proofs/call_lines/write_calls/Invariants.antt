use Rattle.std.proofs.Common.{◌≡◌, ◌++◌, take}
use Rattle.std.specs.Prelude.{flat_map}
use Rattle.report_views.specs.CallLines.{call_lines}
use Rattle.report_views.proofs.call_lines.write_calls.Given as goal

abbrev pub invariant-loop-host : goal.invariant-loop-host
invariant-loop-host l = l.out.items ≡ l.initial.out.items ++ flat_map call_lines (take l.host-index l.hosts)
