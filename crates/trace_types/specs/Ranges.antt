-- The ranges of what kernel events record (this project's own).
use Rattle.std.specs.Prelude.{◌≡◌, true, ℕ, ℤ, ◌^◌, ◌<◌, List, [], FitsSigned}
use Rattle.std.specs.List.{AllByRecursion}
use Rattle.std.specs.Int.{w32, w64}
use Rattle.trace_types.specs.CallNames.{is_call_in, is_call_out}
use Rattle.trace_types.specs.Comms.{IsName}
use Rattle.trace_types.specs.declared.segment.SegKey.{SegKey}
use Rattle.trace_types.specs.declared.event.KernelEvent.{KernelEvent}
use Rattle.trace_types.specs.declared.event.KernelEvent.TheVariants.{Switch, Wakeup, WakeupNew, Waking, Fork, Exit, Free, Migrate, IrqIn, IrqOut, SoftIn, SoftOut, Process, Send, Receive, DiskIssue, DiskDone, Lost, CallIn, CallOut, Other}

-- the ranges of a switch's fields (this project's own)
abbrev pub IsSwitched : ℤ → ℕ → ℕ → ℤ → ℤ → List ℕ → List ℕ → Type 0
IsSwitched prev_state prev_tid next_tid prev_prio next_prio prev_comm next_comm =
    (prev_tid < 2 ^ 31) × IsName prev_comm × FitsSigned w32 prev_prio × FitsSigned w64 prev_state × (next_tid < 2 ^ 31) × IsName next_comm × FitsSigned w32 next_prio

-- the ranges of a wakeup's fields (this project's own)
abbrev pub IsWoken : ℕ → List ℕ → ℤ → ℕ → Type 0
IsWoken tid comm prio target_cpu = (tid < 2 ^ 31) × IsName comm × FitsSigned w32 prio × (target_cpu < 2 ^ 31)

-- the ranges of a segment's fields: addresses of 128 bits, ports and flags of 16, numbers of 32 (IP and TCP)
abbrev pub IsSegKey : SegKey → Type 0
IsSegKey key = (key.saddr < 2 ^ 128) × (key.daddr < 2 ^ 128) × (key.source_port < 2 ^ 16) × (key.dest_port < 2 ^ 16) × (key.seq < 2 ^ 32) × (key.ack_seq < 2 ^ 32) × (key.flags < 2 ^ 16)

-- the ranges of a request's fields (this project's own)
abbrev pub IsRequested : ℕ → ℕ → ℕ → Type 0
IsRequested sector dev nr_sector = (sector < 2 ^ 64) × (dev < 2 ^ 32) × (nr_sector < 2 ^ 32)

-- the ranges of a kind's fields: numbers below 2^31, priorities of 32 bits, a state of 64 bits; the kinds that carry names have their own (this project's own)
abbrev pub IsPlain : KernelEvent → Type 0
IsPlain (Switch prev_state prev_tid next_tid prev_prio next_prio prev_comm next_comm) = IsSwitched prev_state prev_tid next_tid prev_prio next_prio prev_comm next_comm
IsPlain (Wakeup tid comm prio target_cpu) = IsWoken tid comm prio target_cpu
IsPlain (WakeupNew tid comm prio target_cpu) = IsWoken tid comm prio target_cpu
IsPlain (Waking tid comm prio target_cpu) = IsWoken tid comm prio target_cpu
IsPlain (Fork parent_tid child_tid child_comm) = (parent_tid < 2 ^ 31) × (child_tid < 2 ^ 31) × IsName child_comm
IsPlain (Exit tid) = tid < 2 ^ 31
IsPlain (Free tid) = tid < 2 ^ 31
IsPlain (Migrate tid dest_cpu) = (tid < 2 ^ 31) × (dest_cpu < 2 ^ 31)
IsPlain (IrqIn irq) = irq < 2 ^ 31
IsPlain (IrqOut irq) = irq < 2 ^ 31
IsPlain (SoftIn vec) = vec < 2 ^ 31
IsPlain (SoftOut vec) = vec < 2 ^ 31
IsPlain (Process tid ppid name status) = (tid < 2 ^ 31) × (ppid < 2 ^ 31) × IsName name × (status < 2 ^ 31)
IsPlain (Send key) = IsSegKey key
IsPlain (Receive key) = IsSegKey key
IsPlain (DiskIssue sector dev nr_sector) = IsRequested sector dev nr_sector
IsPlain (DiskDone sector dev nr_sector) = IsRequested sector dev nr_sector
IsPlain (Lost events gap) = events < 2 ^ 64
IsPlain kind = ⊥

-- a text is of bytes (this project's own)
abbrev pub AreBytes : List ℕ → Type 0
AreBytes = AllByRecursion (λ b. b < 256)

-- the ranges of a kind that has its name beside it, in the place of a number; a kind that carries none has the empty one (this project's own)
abbrev pub IsKind : List ℕ → KernelEvent → Type 0
IsKind name (CallIn n) = (n ≡ 0) × (is_call_in name ≡ true) × AreBytes name
IsKind name (CallOut n) = (n ≡ 0) × (is_call_out name ≡ true) × AreBytes name
IsKind name (Other n) = (n ≡ 0) × AreBytes name
IsKind name kind = (name ≡ []) × IsPlain kind
