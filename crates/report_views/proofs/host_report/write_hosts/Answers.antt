use Rattle.std.proofs.Common.{◌++◌, ◌∷◌, [], codes}
use Rattle.std.specs.Prelude.{flat_map}
use Rattle.std.specs.Fmt.{decimal}
use Rattle.report_views.specs.Report.{host_line, lost_line, refused_lines}
use Rattle.report_views.proofs.ReportLines.{last_part, line_ends, same_text, two_parts}
use Rattle.report_views.proofs.host_report.write_hosts.Goals as goal

pub returns : goal.returns
returns c =
    let old = c.args.out.now.items in
    let drift = codes "hosttrace report 1\ndrift " ++ decimal c.args.drift in
    let head = drift ++ 10 ∷ [] in
    let lines = flat_map host_line c.args.hosts.now in
    let refused = flat_map refused_lines c.args.hosts.now in
    let lost = flat_map lost_line c.args.hosts.now in
    let two = two_parts old c.write_head.new.out.items c.write_host_lines.new.out.items head lines c.in_ok-write_head.ensures c.in_ok-write_host_lines.ensures in
    let three = two_parts old c.write_host_lines.new.out.items c.write_refused.new.out.items (head ++ lines) refused two c.in_ok-write_refused.ensures in
    same_text c.write_lost.result old c.write_lost.new.out.items ((head ++ lines) ++ refused ++ lost) _ (line_ends drift lines refused lost) (last_part c.write_lost.result old c.write_refused.new.out.items c.write_lost.new.out.items ((head ++ lines) ++ refused) lost three c.write_lost.ensures)
