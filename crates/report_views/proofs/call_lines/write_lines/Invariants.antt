use Rattle.std.proofs.Common.{◌≡◌, ◌++◌, get_or, take}
use Rattle.std.specs.Prelude.{flat_map}
use Rattle.report_views.specs.CallLines.{call_line}
use Rattle.report_views.proofs.call_lines.write_lines.Given as goal

abbrev pub invariant-loop-call : goal.invariant-loop-call
invariant-loop-call l = l.out.items ≡ l.initial.out.items ++ flat_map (call_line l.host (λ n. get_or l.counts n 0)) (take l.call-index l.calls)
