use Rattle.std.proofs.Common.{◌≡◌, ◌++◌, take}
use Rattle.std.specs.Prelude.{flat_map}
use Rattle.report_views.specs.TimeLines.{thread_told}
use Rattle.report_views.proofs.time_lines.write_threads.Given as goal

abbrev pub invariant-loop-path : goal.invariant-loop-path
invariant-loop-path l = l.out.items ≡ l.initial.out.items ++ flat_map (thread_told l.times) (take l.path-index l.paths)
