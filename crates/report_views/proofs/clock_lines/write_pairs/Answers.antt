use Rattle.std.proofs.Common.{◌≡◌, ◌++◌, refl, ap, ◌∙◌, arith}
use Rattle.std.specs.Prelude.{flat_map}
use Rattle.std.specs.List.{range_with_len}
use Rattle.report_views.specs.Report.{count_at, pair_lines_of}
use Rattle.report_views.proofs.ReportLines.{next_line, pairs_same}
use Rattle.report_views.proofs.clock_lines.write_pairs.Goals as goal

pub loop-first-preserved : goal.loop-first-preserved
loop-first-preserved c =
    next_line (pair_lines_of c.args.hosts (count_at c.args.hosts c.in_ok-counts.counts.items) c.args.fits.now) c.args.out.now.items c.loop-first.out.items _ 0 c.loop-first.first c.loop-first.first _ c.loop-first.invariant
    (c.in_ok-write_pairs_of.ensures ∙ ap (λ counts. c.loop-first.out.items ++ pair_lines_of c.args.hosts (count_at c.args.hosts counts) c.args.fits.now c.loop-first.first) c.deref.ensures.value) (omega arith) refl

pub returns : goal.returns
returns c =
    let low = c.loop-first-test.false in
    let high = c.loop-first.auto.first-end in
    let end : c.loop-first.first ≡ c.args.hosts = omega (arith, low, high) in
    c.loop-first.invariant ∙ ap (λ l. c.args.out.now.items ++ l) (ap (λ n. flat_map (pair_lines_of c.args.hosts (count_at c.args.hosts c.in_ok-counts.counts.items) c.args.fits.now) (range_with_len 0 n)) end ∙ pairs_same c.args.hosts c.args.matched.now c.in_ok-counts.counts.items c.args.fits.now c.in_ok-counts.ensures)
