use Rattle.std.proofs.Common.{◌∷◌, ◌++◌, [], if◌then◌else◌, nat_lt, get_or, sym, ap, ◌∙◌}
use Rattle.report_views.specs.CallLines.{call_of}
use Rattle.report_views.proofs.CallLines.{call_more}
use Rattle.report_views.proofs.call_lines.counted_calls.Goals as goal

pub loop-number-preserved : goal.loop-number-preserved
loop-number-preserved c =
    let n = c.loop-number.number in
    let names = c.args.names.now in
    c.in_ok-keep.ensures
    ∙ (ap (λ k. c.loop-number.calls.items ++ (if nat_lt 0 k then call_of names n ∷ [] else [])) c.count_at.ensures
    ∙ (ap (λ l. l ++ (if nat_lt 0 (get_or c.args.counts.now n 0) then call_of names n ∷ [] else [])) c.loop-number.invariant
    ∙ sym (call_more names (λ k. get_or c.args.counts.now k 0) n)))
