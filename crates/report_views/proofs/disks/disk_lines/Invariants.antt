use Rattle.std.proofs.Common.{◌≡◌, take}
use Rattle.std.specs.Prelude.{flat_map}
use Rattle.report_views.specs.DisksText.{device_lines}
use Rattle.report_views.proofs.disks.disk_lines.Given as goal

abbrev pub invariant-loop-device : goal.invariant-loop-device
invariant-loop-device l = l.text.items ≡ flat_map device_lines (take l.device-index l.table.devices.items)
