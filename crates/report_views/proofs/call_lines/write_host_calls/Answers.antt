use Rattle.std.proofs.Common.{ap₂, ◌∙◌, get_or, length, rules}
use Rattle.report_views.specs.CallLines.{AreCalls, call_count, counted_lines}
use Rattle.report_views.proofs.CallLines.{counted_same}
use Rattle.report_views.proofs.ReportLines.{same_text}
use Rattle.report_views.proofs.call_lines.write_host_calls.Goals as goal

pub returns : goal.returns
returns c =
    let h = c.args.host.now in
    let counts = c.in_ok-counts.counts.items in
    let are : AreCalls (length h.names.items) h.events.items counts = search rules in
    same_text c.write_counted.result c.args.out.now.items c.write_counted.new.out.items _ _
    (ap₂ (λ ns cs. counted_lines h.host ns (λ n. get_or cs n 0)) c.deref-2.ensures.value c.deref-3.ensures.value
    ∙ counted_same h.host h.names.items (λ n. get_or counts n 0) (call_count h.events.items) are.each) c.write_counted.ensures
