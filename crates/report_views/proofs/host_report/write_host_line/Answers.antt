use Rattle.std.proofs.Common.{◌≡◌, ◌∷◌, ◌++◌, [], codes, length, rules}
use Rattle.std.specs.Prelude.{OnOk}
use Rattle.std.specs.Fmt.{decimal}
use Rattle.trace_types.specs.ByteTexts.{byte_text}
use Rattle.report_views.proofs.ReportLines.{host_is, last_part, same_text, two_parts}
use Rattle.report_views.proofs.host_report.write_host_line.Goals as goal

pub returns : goal.returns
returns c =
    let old = c.args.out.now.items in
    let host = c.args.host.now in
    let events = c.len-events.result in
    let refused = c.len-refused.result in
    let head = codes "host " ++ (decimal host.host ++ 32 ∷ []) in
    let name = byte_text host.hostname in
    let counts = codes " events " ++ (decimal events ++ (codes " packets " ++ (decimal host.packets ++ (codes " refused " ++ (decimal refused ++ (codes " incomplete " ++ (decimal host.incomplete ++ 10 ∷ []))))))) in
    let first : c.write.new.self.items ≡ old ++ head = search rules in
    let second : c.write_byte_text.new.out.items ≡ c.write.new.self.items ++ name = search rules in
    let plain : OnOk c.map_err-2.result (c.writeln.new.self.items ≡ c.write_byte_text.new.out.items ++ counts) = search rules in
    let some : events ≡ length host.events.items = search rules in
    let none : refused ≡ length host.refused.items = search rules in
    same_text c.map_err-2.result old c.writeln.new.self.items ((head ++ name) ++ counts) _ (host_is host events refused some none)
    (last_part c.map_err-2.result old c.write_byte_text.new.out.items c.writeln.new.self.items (head ++ name) counts (two_parts old c.write.new.self.items c.write_byte_text.new.out.items head name first second) plain)
