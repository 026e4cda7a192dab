use Rattle.std.proofs.Common.{◌≡◌, ◌++◌, codes, length, ap, ◌∙◌, rules}
use Rattle.std.specs.Prelude.{flat_map}
use Rattle.report_views.specs.CallLines.{call_lines}
use Rattle.report_views.specs.Report.{clocks_part, hosts_part, merge_part}
use Rattle.report_views.specs.TimeLines.{time_lines}
use Rattle.report_views.proofs.ReportLines.{six_parts}
use Rattle.report_views.proofs.host_report.report_lines.Goals as goal

pub returns : goal.returns
returns c =
    let hosts = c.args.hosts.now in
    let matched = c.args.messages.now.matched.items in
    let merged = c.args.merged.now in
    let placed = c.args.placed.now in
    let clocks = c.in_ok-write_clocks.ensures ∙ ap (λ ps. c.write_hosts.new.out.items ++ clocks_part (length hosts) matched c.args.messages.now.ambiguous c.args.fits.now ps) c.deref.ensures.value in
    let merge = c.in_ok-write_merge.ensures ∙ ap (λ ms. c.write_clocks.new.out.items ++ merge_part ms merged placed) c.deref-2.ensures.value in
    let last : c.extend_from_slice.new.self.items ≡ c.write_calls.new.out.items ++ codes "end\n" = search rules in
    six_parts c.new-text.result.items c.write_hosts.new.out.items c.write_clocks.new.out.items c.write_merge.new.out.items c.write_times.new.out.items c.write_calls.new.out.items c.extend_from_slice.new.self.items
    (hosts_part hosts c.args.drift) (clocks_part (length hosts) matched c.args.messages.now.ambiguous c.args.fits.now c.args.forest.now.items) (merge_part matched merged placed) (time_lines merged) (flat_map call_lines hosts) (codes "end\n")
    c.new-text.ensures.items c.in_ok-write_hosts.ensures clocks merge c.in_ok-write_times.ensures c.in_ok-write_calls.ensures last
