use Rattle.std.proofs.Common.{◌≡◌, get_or}
use Rattle.report_views.specs.CallLines.{calls_below}
use Rattle.report_views.proofs.call_lines.counted_calls.Given as goal

abbrev pub invariant-loop-number : goal.invariant-loop-number
invariant-loop-number l = l.calls.items ≡ calls_below l.names (λ n. get_or l.counts n 0) l.number
