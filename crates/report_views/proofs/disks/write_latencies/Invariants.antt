use Rattle.std.proofs.Common.{◌≡◌, ◌++◌, take}
use Rattle.report_views.specs.DisksText.{latency_lines}
use Rattle.report_views.proofs.disks.write_latencies.Given as goal

abbrev pub invariant-loop-place : goal.invariant-loop-place
invariant-loop-place l = l.out.items ≡ l.initial.out.items ++ latency_lines l.device.host l.device.dev 0 (take l.place l.digits)
