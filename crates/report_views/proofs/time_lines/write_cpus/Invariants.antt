use Rattle.std.proofs.Common.{◌≡◌, ◌++◌, take}
use Rattle.std.specs.Prelude.{flat_map}
use Rattle.report_views.specs.TimeLines.{cpu_told}
use Rattle.report_views.proofs.time_lines.write_cpus.Given as goal

abbrev pub invariant-loop-path : goal.invariant-loop-path
invariant-loop-path l = l.out.items ≡ l.initial.out.items ++ flat_map (cpu_told l.times) (take l.path-index l.paths)
