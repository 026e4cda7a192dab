-- The requests of disks in a merge, by the places of their issues and completions (this project's own; Linux's block layer records these as block_rq_issue and block_rq_complete).
use Rattle.std.specs.Prelude.{ℕ, ◌-◌, Bool, true, false, not, List, [], ◌∷◌, ◌++◌, Option, None, Some, if◌then◌else◌, is_none, option_map, option_to_list}
use Rattle.std.specs.Option.{option_and_then, option_or}
use Rattle.trace_types.specs.declared.event.KernelEvent.{KernelEvent}
use Rattle.trace_types.specs.declared.event.KernelEvent.TheVariants as event
use Rattle.trace_types.specs.declared.event.Merged.{Merged}
use Rattle.disk_requests.specs.contracts.act.DiskPartialEq.TheImpl as disk
use Rattle.disk_requests.specs.contracts.act.TargetPartialEq.TheImpl as target
use Rattle.disk_requests.specs.declared.act.Act.{Act}
use Rattle.disk_requests.specs.declared.act.Act.TheVariants.{Issue, Done, Other}
use Rattle.disk_requests.specs.declared.act.Disk.{Disk}
use Rattle.disk_requests.specs.declared.act.Target.{Target}
use Rattle.disk_requests.specs.declared.device.Waiting.{Waiting}

-- the comparison that disks derive, which tells all of them apart
abbrev pub same_disk : Disk → Disk → Bool
same_disk = disk.ghosts.eq

-- the comparison that requests derive: one host, one device and one first sector
abbrev pub same_target : Target → Target → Bool
same_target = target.ghosts.eq

-- the request of these numbers
abbrev pub target_of : ℕ → ℕ → ℕ → Target
target_of host dev sector = record { sector = sector; disk = record { host = host; dev = dev } }

-- what an event of a host does
abbrev pub act_of_kind : ℕ → KernelEvent → Act
act_of_kind host (event.DiskIssue sector dev sectors) = Issue (target_of host dev sector) sectors
act_of_kind host (event.DiskDone sector dev sectors) = Done (target_of host dev sector)
act_of_kind host kind = Other

-- what an event does to the requests of disks: it issues one, or completes one, or neither
abbrev pub act_of : Merged → Act
act_of m = act_of_kind m.event.host m.event.kind

-- it issues or completes this request
abbrev pub act_names : Target → Act → Bool
act_names t (Issue u sectors) = same_target u t
act_names t (Done u) = same_target u t
act_names t Other = false

-- the last of these events that issues or completes the request
abbrev pub last_naming : Target → List Merged → Option Merged
last_naming t [] = None
last_naming t (m ∷ ms) = option_or (last_naming t ms) (if act_names t (act_of m) then Some m else None)

-- the first of them
abbrev pub first_naming : Target → List Merged → Option Merged
first_naming t [] = None
first_naming t (m ∷ ms) = if act_names t (act_of m) then Some m else first_naming t ms

-- its key and its sectors, where it's an issue
abbrev pub issue_of : ℕ → Act → Option Waiting
issue_of key (Issue t sectors) = Some (record { key = key; sectors = sectors })
issue_of key (Done t) = None
issue_of key Other = None

-- the issue that a request waits with after these events: the last event that names it, where that is an issue
abbrev pub waiting_after : List Merged → Target → Option Waiting
waiting_after before t = option_and_then (λ m. issue_of m.key (act_of m)) (last_naming t before)

-- a request: an issue and its completion. Its latency is the key of this less the key of that
pub record Served : Type 0 where
  pub disk : Disk
  pub sectors : ℕ
  pub latency : ℕ

abbrev pub served : Target → ℕ → Waiting → Served
served t key issue = record { disk = t.disk; sectors = issue.sectors; latency = key - issue.key }

-- what an event completes: its request's last event before is an issue
abbrev pub served_by : List Merged → ℕ → Act → Option Served
served_by before key (Issue t sectors) = None
served_by before key (Done t) = option_map (served t key) (waiting_after before t)
served_by before key Other = None

-- the requests of all places, where these events stand before
abbrev pub served_from : List Merged → List Merged → List Served
served_from before [] = []
served_from before (m ∷ ms) = option_to_list (served_by before m.key (act_of m)) ++ served_from (before ++ m ∷ []) ms

-- the requests of a merge, in the order of their completions
abbrev pub all_served : List Merged → List Served
all_served merged = served_from [] merged

-- a completion of the disk in no request
abbrev pub is_lone_done : Disk → List Merged → Act → Bool
is_lone_done d before (Issue t sectors) = false
is_lone_done d before (Done t) = if same_disk t.disk d then is_none (waiting_after before t) else false
is_lone_done d before Other = false

-- whether it's a completion
abbrev pub is_done : Act → Bool
is_done (Issue t sectors) = false
is_done (Done t) = true
is_done Other = false

-- whether the next event that names a request completes it
abbrev pub is_completed : Option Merged → Bool
is_completed None = false
is_completed (Some m) = is_done (act_of m)

-- an issue of the disk in no request: the next event that names what it names isn't a completion, or there is none
abbrev pub is_lone_issue : Disk → Act → List Merged → Bool
is_lone_issue d (Issue t sectors) after = if same_disk t.disk d then not (is_completed (first_naming t after)) else false
is_lone_issue d (Done t) after = false
is_lone_issue d Other after = false

-- an issue or a completion of the disk
abbrev pub is_of : Disk → Act → Bool
is_of d (Issue t sectors) = same_disk t.disk d
is_of d (Done t) = same_disk t.disk d
is_of d Other = false
