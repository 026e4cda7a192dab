use Rattle.std.proofs.Common.{◌≡◌, ◌∷◌, ◌++◌, [], codes, length, rules}
use Rattle.std.specs.Prelude.{OnOk}
use Rattle.std.specs.Fmt.{decimal}
use Rattle.report_views.proofs.ReportLines.{messages_is, same_text}
use Rattle.report_views.proofs.host_report.write_messages_line.Goals as goal

pub returns : goal.returns
returns c =
    let matched = c.args.messages.now.matched.items in
    let ambiguous = c.args.messages.now.ambiguous in
    let n = c.len-matched.result in
    let plain : OnOk c.map_err.result (c.writeln.new.self.items ≡ c.args.out.now.items ++ (codes "messages matched " ++ (decimal n ++ (codes " ambiguous " ++ (decimal ambiguous ++ 10 ∷ []))))) = search rules in
    let long : n ≡ length matched = search rules in
    same_text c.map_err.result c.args.out.now.items c.writeln.new.self.items _ _ (messages_is matched n ambiguous long) plain
