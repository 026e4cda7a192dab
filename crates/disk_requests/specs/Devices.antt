-- What is told of each device of a merge (this project's own).
use Rattle.std.specs.Prelude.{◌≡◌, ◌+◌, ◌^◌, ◌<◌, ◌⊎◌, ◌↔◌, ◌&&◌, ◌==◌, ℕ, zero, suc, Bool, true, not, List, [], ◌∷◌, ◌++◌, Contains, cond, count_by, filter, fold, length, map, max, min, nat_lt}
use Rattle.std.specs.List.{AllPairs, list_any, range_with_len, sum_by}
use Rattle.trace_types.specs.declared.event.Merged.{Merged}
use Rattle.disk_requests.specs.declared.act.Disk.{Disk}
use Rattle.disk_requests.specs.declared.device.Device.{Device}
use Rattle.disk_requests.specs.declared.device.TheConstants.{DIGITS}
use Rattle.disk_requests.specs.Requests.{Served, act_of, all_served, is_lone_done, is_lone_issue, is_of, same_disk}

-- the number has k binary digits, and so is below 2^k and not below 2^(k-1); 0 has none
abbrev pub has_digits : ℕ → ℕ → Bool
has_digits zero n = n == 0
has_digits (suc k) n = not (nat_lt n (2 ^ k)) && nat_lt n (2 ^ suc k)

-- the least of these, and 0 if there are none
abbrev pub least_of : List ℕ → ℕ
least_of [] = 0
least_of (x ∷ xs) = fold min x xs

-- the greatest of these, and 0 if there are none
abbrev pub greatest_of : List ℕ → ℕ
greatest_of xs = fold max 0 xs

-- how many of these have 0 binary digits, how many have 1, and so on
abbrev pub digits_of : List ℕ → List ℕ
digits_of xs = map (λ k. count_by (has_digits k) xs) (range_with_len 0 DIGITS)

-- a disk with these requests, and so many lone issues and lone completions
abbrev pub told : Disk → List Served → ℕ → ℕ → Device
told d ss lone_issues lone_dones = record {
  host = d.host;
  dev = d.dev;
  requests = length ss;
  sectors = sum_by (λ s. s.sectors) ss;
  total = sum_by (λ s. s.latency) ss;
  least = least_of (map (λ s. s.latency) ss);
  greatest = greatest_of (map (λ s. s.latency) ss);
  lone_issues = lone_issues;
  lone_dones = lone_dones;
  digits = digits_of (map (λ s. s.latency) ss);
}

-- how many completions of the disk are in no request, where these events stand before
abbrev pub lone_dones_from : Disk → List Merged → List Merged → ℕ
lone_dones_from d before [] = 0
lone_dones_from d before (m ∷ ms) = cond (is_lone_done d before (act_of m)) 1 0 + lone_dones_from d (before ++ m ∷ []) ms

-- how many issues of the disk are in no request
abbrev pub lone_issues : Disk → List Merged → ℕ
lone_issues d [] = 0
lone_issues d (m ∷ ms) = cond (is_lone_issue d (act_of m) ms) 1 0 + lone_issues d ms

-- what a merge tells of a disk
abbrev pub device_of : List Merged → Disk → Device
device_of merged d = told d (filter (λ s. same_disk s.disk d) (all_served merged)) (lone_issues d merged) (lone_dones_from d [] merged)

-- an issue or a completion of the merge names the disk
abbrev pub is_named : List Merged → Disk → Bool
is_named merged d = list_any (λ m. is_of d (act_of m)) merged

-- the disk of a device
abbrev pub disk_of : Device → Disk
disk_of device = record { host = device.host; dev = device.dev }

-- the one device comes first: by its host, then by its number
abbrev pub IsBefore : Device → Device → Type 0
IsBefore a b = (a.host < b.host) ⊎ ((a.host ≡ b.host) × (a.dev < b.dev))

-- the devices that issues and completions of the merge name, each once and in order, each with what the merge tells of it
pub record AreDevices (merged : List Merged) (devices : List Device) : Type 0 where
  pub members : (device : Device) → Contains devices device ↔ ((is_named merged (disk_of device) ≡ true) × (device ≡ device_of merged (disk_of device)))
  pub order : AllPairs IsBefore devices

-- a merge has one answer: two that are both right are equal
abbrev pub HaveOneAnswer : Type 0
HaveOneAnswer = (merged : List Merged) (devices others : List Device) → AreDevices merged devices → AreDevices merged others → devices ≡ others
