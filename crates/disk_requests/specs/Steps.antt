-- What one more event changes in what is told (this project's own).
use Rattle.std.specs.Prelude.{◌+◌, ◌-◌, ◌*◌, ◌^◌, ◌<◌, ◌≤◌, ◌==◌, ℕ, List, [], ◌∷◌, Option, None, Some, cond, if◌then◌else◌, max, min, unwrap_or, IsSome}
use Rattle.std.specs.List.{AllByRecursion}
use Rattle.disk_requests.specs.declared.act.Act.{Act}
use Rattle.disk_requests.specs.declared.act.Act.TheVariants.{Issue, Done, Other}
use Rattle.disk_requests.specs.declared.act.Disk.{Disk}
use Rattle.disk_requests.specs.declared.act.Target.{Target}
use Rattle.disk_requests.specs.declared.device.Device.{Device}
use Rattle.disk_requests.specs.declared.device.Waiting.{Waiting}
use Rattle.disk_requests.specs.Devices.{has_digits, told}
use Rattle.disk_requests.specs.Requests.{same_disk, same_target}

-- a disk without requests
abbrev pub blank : Disk → Device
blank d = told d [] 0 0

-- one more issue
abbrev pub with_issue : Device → Device
with_issue d = record d { lone_issues = d.lone_issues + 1 }

-- one more lone completion
abbrev pub with_lone_done : Device → Device
with_lone_done d = record d { lone_dones = d.lone_dones + 1 }

-- one more of the number of binary digits that a latency has, from k digits on
abbrev pub counted : ℕ → List ℕ → ℕ → List ℕ
counted k [] latency = []
counted k (n ∷ ns) latency = (n + cond (has_digits k latency) 1 0) ∷ counted (k + 1) ns latency

-- one of the lone issues is completed
abbrev pub with_served : Device → ℕ → ℕ → Device
with_served d sectors latency = record d {
  requests = d.requests + 1;
  sectors = d.sectors + sectors;
  total = d.total + latency;
  least = if d.requests == 0 then latency else min d.least latency;
  greatest = max d.greatest latency;
  lone_issues = d.lone_issues - 1;
  digits = counted 0 d.digits latency;
}

-- there is room for one more event of any kind
pub record HasRoom (d : Device) : Type 0 where
  pub requests : d.requests + 1 < 2 ^ 64
  pub sectors : d.sectors + 2 ^ 32 < 2 ^ 128
  pub total : d.total + 2 ^ 64 < 2 ^ 128
  pub lone_issues : d.lone_issues + 1 < 2 ^ 64
  pub lone_dones : d.lone_dones + 1 < 2 ^ 64
  pub digits : AllByRecursion (λ n. n + 1 < 2 ^ 64) d.digits

-- its numbers come of n events
pub record IsSmall (n : ℕ) (d : Device) : Type 0 where
  pub requests : d.requests ≤ n
  pub sectors : d.sectors ≤ n * 2 ^ 32
  pub total : d.total ≤ n * 2 ^ 64
  pub lone_issues : d.lone_issues ≤ n
  pub lone_dones : d.lone_dones ≤ n
  pub digits : AllByRecursion (λ c. c ≤ n) d.digits

-- ---- the tables: the issues that wait, by their requests, and the devices, by their disks

-- the device of a disk, and a blank one where there is none
abbrev pub device_in : (Disk → Option Device) → Disk → Device
device_in rows d = unwrap_or (rows d) (blank d)

-- the issues that wait after one more event
abbrev pub waits_after : ℕ → Act → (Target → Option Waiting) → Target → Option Waiting
waits_after key (Issue u sectors) waits t = cond (same_target u t) (Some (record { key = key; sectors = sectors })) (waits t)
waits_after key (Done u) waits t = cond (same_target u t) None (waits t)
waits_after key Other waits t = waits t

-- a device after a completion, where its request waits or doesn't
abbrev pub completed : ℕ → Option Waiting → Device → Device
completed key None d = with_lone_done d
completed key (Some issue) d = with_served d issue.sectors (key - issue.key)

-- the devices after one more event
abbrev pub rows_after : ℕ → Act → (Target → Option Waiting) → (Disk → Option Device) → Disk → Option Device
rows_after key (Issue u sectors) waits rows d = cond (same_disk u.disk d) (Some (with_issue (device_in rows u.disk))) (rows d)
rows_after key (Done u) waits rows d = cond (same_disk u.disk d) (Some (completed key (waits u) (device_in rows u.disk))) (rows d)
rows_after key Other waits rows d = rows d

-- one more event can be noted: there is room, and where a request waits, its issue is counted as lone
abbrev pub CanTake : Act → (Target → Option Waiting) → (Disk → Option Device) → Type 0
CanTake (Issue u sectors) waits rows = HasRoom (device_in rows u.disk)
CanTake (Done u) waits rows = HasRoom (device_in rows u.disk) × (IsSome (waits u) → 0 < (device_in rows u.disk).lone_issues)
CanTake Other waits rows = Unit {0}

-- all devices come of n events
abbrev pub AreSmall : ℕ → (Disk → Option Device) → Type 0
AreSmall n rows = (d : Disk) → IsSmall n (device_in rows d)
