-- The order in which devices are listed (this project's own).
use Rattle.std.specs.Prelude.{◌≡◌, false}
use Rattle.std.specs.Ordering.{is_lt, nat_cmp, ordering_then}
use Rattle.std.specs.declared.cmp.Ordering.{Ordering}
use Rattle.disk_requests.specs.declared.device.Device.{Device}

-- by their hosts, those of one host by their numbers
abbrev pub compare_devices : Device → Device → Ordering
compare_devices a b = ordering_then (nat_cmp a.host b.host) (nat_cmp a.dev b.dev)

-- the second device isn't listed before the first
abbrev pub IsNotAfter : Device → Device → Type 0
IsNotAfter a b = is_lt (compare_devices b a) ≡ false
