-- What an event does to attributes: the state rules (after Trace Compass's kernel analysis; the table is this project's own).
use Rattle.std.specs.Prelude.{ℕ, ℤ, pos, ◌==◌, ◌%◌, ◌^◌, nat_lt, if◌then◌else◌, Option, Some, None, List, [], ◌∷◌, ◌++◌}
use Rattle.std.specs.Int.{w64, cast_unsigned}
use Rattle.trace_types.specs.declared.path.Path.{Path as AttributePath}
use Rattle.trace_types.specs.declared.path.Path.TheVariants as path
use Rattle.trace_types.specs.declared.path.ThreadKey.{ThreadKey}
use Rattle.trace_types.specs.declared.path.ThreadKey.TheVariants.{Idle, Tid}
use Rattle.trace_types.specs.declared.path.CpuLeaf.TheVariants as cpu_leaf
use Rattle.trace_types.specs.declared.path.ThreadLeaf.TheVariants as thread_leaf
use Rattle.trace_types.specs.declared.value.Value.{Value}
use Rattle.trace_types.specs.declared.value.Value.TheVariants.{Null, Int, Comm, Call}
use Rattle.trace_types.specs.declared.event.Event.{Event}
use Rattle.trace_types.specs.declared.event.KernelEvent.{KernelEvent}
use Rattle.trace_types.specs.declared.event.KernelEvent.TheVariants.{Switch, Wakeup, WakeupNew, Waking, Fork, Exit, Free, Migrate, IrqIn, IrqOut, SoftIn, SoftOut, Process, CallIn, CallOut, Lost}
use Rattle.trace_types.specs.declared.thread_status.TheConstants as status
use Rattle.trace_types.specs.Same.{same_value}
use Rattle.kernel_provider.specs.declared.rules.Assignment.{Assignment}

-- the value of every attribute
abbrev pub Values : Type 0
Values = AttributePath → Value

-- a thread's status: running, ready, blocked or ended
abbrev pub RUNNING : Value
RUNNING = Int status.RUNNING

abbrev pub READY : Value
READY = Int status.READY

abbrev pub BLOCKED : Value
BLOCKED = Int status.BLOCKED

abbrev pub ENDED : Value
ENDED = Int status.ENDED

-- the thread of a tid on a processor; tid 0 is the processor's idle thread
abbrev pub thread_of : ℕ → ℕ → ThreadKey
thread_of tid cpu = if tid == 0 then Idle cpu else Tid tid

abbrev pub gives : AttributePath → Value → Assignment
gives p v = record { path = p; value = v }

-- a thread that leaves the processor is ready where the low 8 bits of its state are 0, else blocked
abbrev pub left_status : ℤ → Value
left_status state = if cast_unsigned w64 state % 256 == 0 then READY else BLOCKED

-- a thread that leaves its processor; one that has ended keeps that status
abbrev pub leaving_assignments : Values → ℕ → ThreadKey → ℤ → ℤ → List ℕ → List Assignment
leaving_assignments values host thread state prio comm =
    (if same_value (values (path.Thread host thread thread_leaf.Status)) ENDED then [] else gives (path.Thread host thread thread_leaf.Status) (left_status state) ∷ [])
    ++ gives (path.Thread host thread thread_leaf.Name) (Comm comm) ∷ gives (path.Thread host thread thread_leaf.Prio) (Int prio) ∷ []

-- a thread that comes to a processor
abbrev pub coming_assignments : ℕ → ℕ → ℕ → ℤ → List ℕ → List Assignment
coming_assignments host cpu tid prio comm =
    gives (path.Thread host (thread_of tid cpu) thread_leaf.Status) RUNNING
    ∷ gives (path.Thread host (thread_of tid cpu) thread_leaf.Name) (Comm comm)
    ∷ gives (path.Thread host (thread_of tid cpu) thread_leaf.Cpu) (Int (pos cpu))
    ∷ gives (path.Thread host (thread_of tid cpu) thread_leaf.Prio) (Int prio)
    ∷ gives (path.Cpu host cpu cpu_leaf.Thread) (Int (pos tid)) ∷ []

-- a thread that is woken: where it doesn't run, it is ready, on the processor where it waits
abbrev pub woken_assignments : Values → ℕ → ThreadKey → List ℕ → ℤ → ℕ → List Assignment
woken_assignments values host thread comm prio target_cpu =
    gives (path.Thread host thread thread_leaf.Name) (Comm comm)
    ∷ gives (path.Thread host thread thread_leaf.Prio) (Int prio)
    ∷ (if same_value (values (path.Thread host thread thread_leaf.Status)) RUNNING then [] else gives (path.Thread host thread thread_leaf.Status) READY ∷ gives (path.Thread host thread thread_leaf.Cpu) (Int (pos target_cpu)) ∷ [])

-- a thread that is made
abbrev pub forked_assignments : ℕ → ThreadKey → ℕ → List ℕ → List Assignment
forked_assignments host thread parent_tid comm =
    gives (path.Thread host thread thread_leaf.Status) READY
    ∷ gives (path.Thread host thread thread_leaf.Name) (Comm comm)
    ∷ gives (path.Thread host thread thread_leaf.Parent) (Int (pos parent_tid))
    ∷ gives (path.Thread host thread thread_leaf.Call) Null ∷ []

-- a thread of which nothing is left
abbrev pub freed_assignments : ℕ → ThreadKey → List Assignment
freed_assignments host thread =
    gives (path.Thread host thread thread_leaf.Status) Null
    ∷ gives (path.Thread host thread thread_leaf.Name) Null
    ∷ gives (path.Thread host thread thread_leaf.Cpu) Null
    ∷ gives (path.Thread host thread thread_leaf.Prio) Null
    ∷ gives (path.Thread host thread thread_leaf.Parent) Null
    ∷ gives (path.Thread host thread thread_leaf.Call) Null ∷ []

-- the status of a thread that the tracer found: 2 waits to run, 5 is blocked, and any other tells nothing
abbrev pub found_status : AttributePath → ℕ → List Assignment
found_status status found = if found == 2 then gives status READY ∷ [] else if found == 5 then gives status BLOCKED ∷ [] else []

-- a thread that was there before the trace; a status that is known already stays
abbrev pub process_assignments : Values → ℕ → ThreadKey → ℕ → List ℕ → ℕ → List Assignment
process_assignments values host thread ppid name status =
    gives (path.Thread host thread thread_leaf.Name) (Comm name)
    ∷ gives (path.Thread host thread thread_leaf.Parent) (Int (pos ppid))
    ∷ (if same_value (values (path.Thread host thread thread_leaf.Status)) Null then found_status (path.Thread host thread thread_leaf.Status) status else [])

-- nothing of an idle thread, whose tid is 0
abbrev pub unless_idle : ℕ → List Assignment → List Assignment
unless_idle tid given = if tid == 0 then [] else given

-- the thread that runs on a processor, by the value of its Thread: a tid of 32 bits, or nothing where none is known
abbrev pub running : Value → ℕ → Option ThreadKey
running (Int (pos tid)) cpu = if nat_lt tid (2 ^ 32) then Some (thread_of tid cpu) else None
running value cpu = None

-- the call in which the running thread is; nothing where none is known
abbrev pub call_assignments : Option ThreadKey → ℕ → Value → List Assignment
call_assignments None host call = []
call_assignments (Some thread) host call = gives (path.Thread host thread thread_leaf.Call) call ∷ []

-- where events were lost, neither what ran on the processor is known any more nor what became of it
abbrev pub forgotten_thread : Option ThreadKey → ℕ → List Assignment
forgotten_thread None host = []
forgotten_thread (Some thread) host = gives (path.Thread host thread thread_leaf.Status) Null ∷ gives (path.Thread host thread thread_leaf.Call) Null ∷ []

abbrev pub lost_assignments : Option ThreadKey → ℕ → ℕ → List Assignment
lost_assignments thread host cpu =
    forgotten_thread thread host
    ++ gives (path.Cpu host cpu cpu_leaf.Thread) Null
    ∷ gives (path.Cpu host cpu cpu_leaf.Irq) Null
    ∷ gives (path.Cpu host cpu cpu_leaf.Softirq) Null ∷ []

-- what the events assign that neither switch nor wake
abbrev pub other_assignments : Values → ℕ → ℕ → KernelEvent → List Assignment
other_assignments values host cpu (Fork parent_tid child_tid child_comm) = forked_assignments host (thread_of child_tid cpu) parent_tid child_comm
other_assignments values host cpu (Exit tid) = gives (path.Thread host (thread_of tid cpu) thread_leaf.Status) ENDED ∷ gives (path.Thread host (thread_of tid cpu) thread_leaf.Call) Null ∷ []
other_assignments values host cpu (Free tid) = freed_assignments host (thread_of tid cpu)
other_assignments values host cpu (Migrate tid dest_cpu) = unless_idle tid (gives (path.Thread host (Tid tid) thread_leaf.Cpu) (Int (pos dest_cpu)) ∷ [])
other_assignments values host cpu (IrqIn irq) = gives (path.Cpu host cpu cpu_leaf.Irq) (Int (pos irq)) ∷ []
other_assignments values host cpu (IrqOut irq) = gives (path.Cpu host cpu cpu_leaf.Irq) Null ∷ []
other_assignments values host cpu (SoftIn vec) = gives (path.Cpu host cpu cpu_leaf.Softirq) (Int (pos vec)) ∷ []
other_assignments values host cpu (SoftOut vec) = gives (path.Cpu host cpu cpu_leaf.Softirq) Null ∷ []
other_assignments values host cpu (Process tid ppid name status) = unless_idle tid (process_assignments values host (Tid tid) ppid name status)
other_assignments values host cpu (CallIn name) = call_assignments (running (values (path.Cpu host cpu cpu_leaf.Thread)) cpu) host (Call name)
other_assignments values host cpu (CallOut name) = call_assignments (running (values (path.Cpu host cpu cpu_leaf.Thread)) cpu) host Null
other_assignments values host cpu (Lost events gap) = lost_assignments (running (values (path.Cpu host cpu cpu_leaf.Thread)) cpu) host cpu
other_assignments values host cpu kind = []

abbrev pub kind_assignments : Values → ℕ → ℕ → KernelEvent → List Assignment
kind_assignments values host cpu (Switch prev_state prev_tid next_tid prev_prio next_prio prev_comm next_comm) =
    leaving_assignments values host (thread_of prev_tid cpu) prev_state prev_prio prev_comm ++ coming_assignments host cpu next_tid next_prio next_comm
kind_assignments values host cpu (Wakeup tid comm prio target_cpu) = unless_idle tid (woken_assignments values host (Tid tid) comm prio target_cpu)
kind_assignments values host cpu (WakeupNew tid comm prio target_cpu) = unless_idle tid (woken_assignments values host (Tid tid) comm prio target_cpu)
kind_assignments values host cpu (Waking tid comm prio target_cpu) = unless_idle tid (woken_assignments values host (Tid tid) comm prio target_cpu)
kind_assignments values host cpu kind = other_assignments values host cpu kind

-- what an event assigns, in order; the rules read the values before the event
abbrev pub assignments : Values → Event → List Assignment
assignments values event = kind_assignments values event.host event.cpu event.kind
