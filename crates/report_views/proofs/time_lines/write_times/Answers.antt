use Rattle.std.proofs.Common.{◌≡◌, ◌++◌, ap, ◌∙◌}
use Rattle.std.specs.Prelude.{flat_map}
use Rattle.report_views.specs.TimeLines.{cpu_told, thread_told, time_lines}
use Rattle.report_views.proofs.ReportLines.{last_part, same_text}
use Rattle.report_views.proofs.TimeLines.{lines_told}
use Rattle.report_views.proofs.time_lines.write_times.Goals as goal

pub returns : goal.returns
returns c =
    let old = c.args.out.now.items in
    let times = c.in_ok-times.times in
    let paths = c.in_ok-paths.paths.items in
    let cpus = flat_map (cpu_told times) paths in
    let first : c.write_cpus.new.out.items ≡ old ++ cpus = c.in_ok-write_cpus.ensures ∙ ap (λ ps. old ++ flat_map (cpu_told times) ps) c.deref.ensures.value in
    same_text c.write_threads.result old c.write_threads.new.out.items (cpus ++ flat_map (thread_told times) c.deref-2.result.now) (time_lines c.args.merged.now)
    (ap (λ ps. cpus ++ flat_map (thread_told times) ps) c.deref-2.ensures.value ∙ lines_told c.args.merged.now times c.in_ok-times.ensures paths c.in_ok-paths.ensures)
    (last_part c.write_threads.result old c.write_cpus.new.out.items c.write_threads.new.out.items cpus (flat_map (thread_told times) c.deref-2.result.now) first c.write_threads.ensures)
