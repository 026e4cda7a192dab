-- What a blocked thread waited for: what ended its wait (after Giraldeau and Dagenais 2016; the classes and their order are this project's own).
use Rattle.std.specs.Prelude.{ℕ, pos, ◌≡◌, ◌≢◌, ◌<◌, ◌≤◌, ◌==◌, ◌⊎◌, Bool, false, if◌then◌else◌, Option, None, Some, List, slice_get, IsTrue, IsFalse}
use Rattle.trace_types.specs.declared.event.Merged.{Merged}
use Rattle.trace_types.specs.declared.event.KernelEvent.{KernelEvent}
use Rattle.trace_types.specs.declared.event.KernelEvent.TheVariants.{Wakeup, WakeupNew, Waking, SoftIn}
use Rattle.trace_types.specs.declared.path.Path.TheVariants as path
use Rattle.trace_types.specs.declared.path.CpuLeaf.TheVariants as cpu_leaf
use Rattle.trace_types.specs.declared.value.Value.{Value}
use Rattle.trace_types.specs.declared.value.Value.TheVariants.{Null, Int}
use Rattle.host_merge.specs.declared.placed.Placed.{Placed}
use Rattle.wait_graph.specs.States.{tid_on, values_before}
use Rattle.wait_graph.specs.declared.vertex.Link.{Link}
use Rattle.wait_graph.specs.declared.vertex.Link.TheVariants.{Thread, Net, Timer, Disk, Interrupt, Nobody}

-- whether an event wakes the thread of this tid
abbrev pub wakes : ℕ → KernelEvent → Bool
wakes tid (Wakeup woken comm prio target_cpu) = woken == tid
wakes tid (WakeupNew woken comm prio target_cpu) = woken == tid
wakes tid (Waking woken comm prio target_cpu) = woken == tid
wakes tid kind = false

-- the merge has at this place an event of this host and processor
pub record IsOn (merged : List Merged) (host cpu place : ℕ) : Type 0 where
  pub event : Merged
  pub there : slice_get merged place ≡ Some event
  pub of_host : event.event.host ≡ host
  pub of_cpu : event.event.cpu ≡ cpu

-- and the event begins a soft interrupt there
pub record IsSoftInOn (merged : List Merged) (host cpu place : ℕ) : Type 0 where
  pub event : Merged
  pub there : slice_get merged place ≡ Some event
  pub of_host : event.event.host ≡ host
  pub of_cpu : event.event.cpu ≡ cpu
  pub vec : ℕ
  pub is_kind : event.event.kind ≡ SoftIn vec

-- a matched message was received at a place of this processor before the end of a wait, after every soft interrupt that began there before that end, and was sent before
pub record IsReceived (merged : List Merged) (placed : List Placed) (host cpu end receive send : ℕ) : Type 0 where
  pub number : ℕ
  pub message : slice_get placed number ≡ Some (record { send = send; receive = receive })
  pub sent_before : send < receive
  pub before : receive < end
  pub here : IsOn merged host cpu receive
  pub since : (soft : ℕ) → soft < end → IsSoftInOn merged host cpu soft → soft < receive

-- it is the last such message
pub record IsLastReceived (merged : List Merged) (placed : List Placed) (host cpu end receive send : ℕ) : Type 0 where
  pub received : IsReceived merged placed host cpu end receive send
  pub last : (later from : ℕ) → IsReceived merged placed host cpu end later from → later ≤ receive

-- the thread that ran on the sender's processor as it sent; it isn't the idle thread
pub record IsSender (merged : List Merged) (send host tid : ℕ) : Type 0 where
  pub event : Merged
  pub there : slice_get merged send ≡ Some event
  pub of_host : event.event.host ≡ host
  pub runs : tid_on (values_before merged send) host event.event.cpu ≡ Some tid
  pub not_idle : tid ≢ 0

-- the thread that sent the last such message, and the place of its send
pub record IsNet (merged : List Merged) (placed : List Placed) (host cpu end from tid send : ℕ) : Type 0 where
  pub receive : ℕ
  pub last : IsLastReceived merged placed host cpu end receive send
  pub sender : IsSender merged send from tid

-- a wait that ended while the network's soft interrupt ran: for the sender of the last message that came, or where there is none for the interrupt
abbrev pub IsNetLink : List Merged → List Placed → ℕ → ℕ → ℕ → Link → Type 0
IsNetLink merged placed host cpu end link =
    ((from : ℕ) × (tid : ℕ) × (send : ℕ) × IsNet merged placed host cpu end from tid send × (link ≡ Net from tid send))
    ⊎ (((from tid send : ℕ) → ¬ IsNet merged placed host cpu end from tid send) × (link ≡ Interrupt))

-- a wait that ended while no interrupt ran: for the thread that ran there, unless that is unknown or the waiting thread itself; with the idle thread there, for an interrupt
abbrev pub thread_link : ℕ → ℕ → Option ℕ → Link
thread_link host tid None = Nobody
thread_link host tid (Some running) = if running == tid then Nobody else if running == 0 then Interrupt else Thread host running

-- a wait that ended while this soft interrupt ran, by its number in Linux: 1 and 8 are timers, 4 is the disk's, 3 the network's receive
pub record IsSoftLink (merged : List Merged) (placed : List Placed) (host cpu end vec : ℕ) (link : Link) : Type 0 where
  pub timer : vec ≡ 1 → link ≡ Timer
  pub fine_timer : vec ≡ 8 → link ≡ Timer
  pub disk : vec ≡ 4 → link ≡ Disk
  pub network : vec ≡ 3 → IsNetLink merged placed host cpu end link
  pub other : vec ≢ 1 → vec ≢ 8 → vec ≢ 4 → vec ≢ 3 → link ≡ Interrupt

-- what woke a thread, by the interrupt, the soft interrupt and the thread of the processor on which it was woken
abbrev pub IsWakeLink : List Merged → List Placed → ℕ → ℕ → ℕ → ℕ → Value → Value → Option ℕ → Link → Type 0
IsWakeLink merged placed host tid cpu end Null Null running link = link ≡ thread_link host tid running
IsWakeLink merged placed host tid cpu end Null (Int (pos vec)) running link = IsSoftLink merged placed host cpu end vec link
IsWakeLink merged placed host tid cpu end irq soft running link = link ≡ Interrupt

-- what ended the wait of a thread of this host and tid at a place: for nobody where the event there doesn't wake it
pub record IsLinkAt (merged : List Merged) (placed : List Placed) (host tid end : ℕ) (link : Link) : Type 0 where
  pub event : Merged
  pub there : slice_get merged end ≡ Some event
  pub woken : IsTrue (wakes tid event.event.kind) → IsWakeLink merged placed host tid event.event.cpu end
      (values_before merged end (path.Cpu host event.event.cpu cpu_leaf.Irq)) (values_before merged end (path.Cpu host event.event.cpu cpu_leaf.Softirq))
      (tid_on (values_before merged end) host event.event.cpu) link
  pub alone : IsFalse (wakes tid event.event.kind) → link ≡ Nobody
