use Rattle.std.proofs.Common.{◌≡◌, ◌∷◌, ◌++◌, [], codes, length, refl, ap, sym, ◌∙◌, rules}
use Rattle.std.specs.Prelude.{slice_get, Some, OnOk}
use Rattle.std.specs.Fmt.{decimal}
use Rattle.std.proofs.lemmas.Option.{slice_get_read}
use Rattle.report_views.specs.Report.{inverted_line}
use Rattle.report_views.proofs.ReportLines.{inverted_is, same_text}
use Rattle.report_views.proofs.host_report.write_inverted_line.Goals as goal

pub returns : goal.returns
returns c =
    let m = c.in-Some.message.now in
    let found = c.in-Some.ensures.lookup in
    let there : slice_get c.args.matched.now c.args.number ≡ Some m = slice_get_read c.args.matched.now (length c.args.matched.now) c.args.number m refl found.3.0 found.1 in
    let plain : OnOk c.map_err.result (c.writeln.new.self.items ≡ c.args.out.now.items ++ (codes "inverted-message " ++ (decimal m.from ++ 32 ∷ (decimal m.sent ++ 32 ∷ (decimal m.to ++ 32 ∷ (decimal m.received ++ 10 ∷ [])))))) = search rules in
    same_text c.map_err.result c.args.out.now.items c.writeln.new.self.items _ _ (inverted_is m ∙ ap inverted_line (sym there)) plain
