use Rattle.std.proofs.Common.{◌≡◌, ◌++◌, length}
use Rattle.report_views.specs.Values.{call_name}
use Rattle.report_views.proofs.call_name.call_name.Given as goal

abbrev pub invariant-loop-rest : goal.invariant-loop-rest
invariant-loop-rest l = l.kept.items ++ call_name l.rest ≡ call_name l.fn.name

abbrev pub decreases-loop-rest : goal.decreases-loop-rest
decreases-loop-rest l = length l.rest
