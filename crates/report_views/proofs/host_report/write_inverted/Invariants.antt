use Rattle.std.proofs.Common.{◌≡◌, ◌++◌, ◌∷◌, codes, length, take}
use Rattle.std.specs.Prelude.{flat_map, slice_get}
use Rattle.std.specs.Fmt.{decimal}
use Rattle.report_views.specs.Report.{inverted_line}
use Rattle.report_views.proofs.host_report.write_inverted.Given as goal

abbrev pub invariant-loop-number : goal.invariant-loop-number
invariant-loop-number l = l.out.items ≡ l.fn.out.items ++ (codes "inverted " ++ decimal (length l.numbers) ++ 10 ∷ flat_map (λ k. inverted_line (slice_get l.matched k)) (take l.number-index l.numbers))
