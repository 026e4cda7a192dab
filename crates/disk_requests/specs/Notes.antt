-- What the tables tell after some events (this project's own).
use Rattle.std.specs.Prelude.{◌≡◌, List, Option, is_some, length}
use Rattle.trace_types.specs.declared.event.Merged.{Merged}
use Rattle.disk_requests.specs.declared.act.Disk.{Disk}
use Rattle.disk_requests.specs.declared.act.Target.{Target}
use Rattle.disk_requests.specs.declared.device.Device.{Device}
use Rattle.disk_requests.specs.declared.device.Waiting.{Waiting}
use Rattle.disk_requests.specs.Devices.{device_of, is_named}
use Rattle.disk_requests.specs.Requests.{waiting_after}
use Rattle.disk_requests.specs.Steps.{AreSmall, device_in}

-- the tables have what these events leave: the issues that wait, and the devices that are named
pub record Notes (events : List Merged) (waits : Target → Option Waiting) (devices : Disk → Option Device) : Type 0 where
  pub waiting : (t : Target) → waits t ≡ waiting_after events t
  pub rows : (d : Disk) → device_in devices d ≡ device_of events d
  pub named : (d : Disk) → is_some (devices d) ≡ is_named events d
  pub small : AreSmall (length events) devices
