use Rattle.std.proofs.Common.{◌≡◌, ◌∙◌, ◌+◌, ◌++◌, ap, arith, append_assoc, get_or, length, length-take, sym, take}
use Rattle.std.proofs.lemmas.List.{take_more}
use Rattle.report_views.specs.DisksText.{latency_lines, latency_told}
use Rattle.report_views.proofs.DiskLines.{latency_more}
use Rattle.report_views.proofs.disks.write_latencies.Goals as goal

pub loop-place-preserved : goal.loop-place-preserved
loop-place-preserved c =
    let d = c.args.device.now in
    let ns = c.args.digits.now in
    let at = c.loop-place.place in
    let n = get_or ns at 0 in
    let old = c.args.out.now.items in
    let long : at ≡ 0 + length (take at ns) = omega (arith, length-take at ns, c.loop-place-test.true) in
    c.in_ok-write_latency.ensures
    ∙ (ap (λ o. o ++ latency_told d.host d.dev at n) c.loop-place.invariant
    ∙ (append_assoc old (latency_lines d.host d.dev 0 (take at ns)) (latency_told d.host d.dev at n)
    ∙ ap (λ l. old ++ l) (sym (ap (latency_lines d.host d.dev 0) (take_more ns at 0 c.loop-place-test.true) ∙ latency_more d.host d.dev 0 (take at ns) n at long))))
