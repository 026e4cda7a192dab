-- The text of the requests of disks: lines for each device (this project's own format).
use Rattle.std.specs.Prelude.{ℕ, ◌+◌, ◌==◌, if◌then◌else◌, List, [], ◌∷◌, ◌++◌, codes, flat_map}
use Rattle.std.specs.Fmt.{decimal}
use Rattle.disk_requests.specs.declared.device.Device.{Device}

-- the host and the device, how many requests it had, their sectors and their latencies together (this project's own)
abbrev pub sums_text : Device → List ℕ
sums_text d = codes "disk " ++ decimal d.host ++ 32 ∷ decimal d.dev ++ codes " requests " ++ decimal d.requests ++ codes " sectors " ++ decimal d.sectors ++ codes " total " ++ decimal d.total

-- the least latency and the greatest, how much is in no request, and the line's end (this project's own)
abbrev pub bounds_text : Device → List ℕ
bounds_text d = codes " least " ++ (decimal d.least ++ (codes " greatest " ++ (decimal d.greatest ++ (codes " lone-issues " ++ (decimal d.lone_issues ++ (codes " lone-completions " ++ (decimal d.lone_dones ++ 10 ∷ [])))))))

-- a line: the host and the device, a number of binary digits, and how many requests had such a latency; none where no request had (this project's own)
abbrev pub latency_told : ℕ → ℕ → ℕ → ℕ → List ℕ
latency_told host dev place count = if count == 0 then [] else codes "latency " ++ decimal host ++ 32 ∷ decimal dev ++ 32 ∷ decimal place ++ 32 ∷ decimal count ++ 10 ∷ []

-- these lines for counts from a place on (this project's own)
abbrev pub latency_lines : ℕ → ℕ → ℕ → List ℕ → List ℕ
latency_lines host dev place [] = []
latency_lines host dev place (n ∷ ns) = latency_told host dev place n ++ latency_lines host dev (place + 1) ns

-- the lines of a device: its own, and those of its latencies (this project's own)
abbrev pub device_lines : Device → List ℕ
device_lines d = sums_text d ++ bounds_text d ++ latency_lines d.host d.dev 0 d.digits

-- the lines of each device, in their order (this project's own)
abbrev pub disks_text : List Device → List ℕ
disks_text ds = flat_map device_lines ds
