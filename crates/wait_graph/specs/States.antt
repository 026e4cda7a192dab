-- What a thread does after each event of a merge: it runs, it waits to run, it is blocked, or that isn't known (after Giraldeau and Dagenais, "Wait analysis of distributed systems using kernel tracing", 2016; the classes are this project's own).
use Rattle.std.specs.Prelude.{ℕ, ℤ, pos, ◌==◌, ◌%◌, if◌then◌else◌, Option, None, Some, List, [], ◌∷◌, take}
use Rattle.std.specs.Int.{w64, cast_unsigned}
use Rattle.trace_types.specs.declared.event.Event.{Event}
use Rattle.trace_types.specs.declared.event.Merged.{Merged}
use Rattle.trace_types.specs.declared.event.KernelEvent.{KernelEvent}
use Rattle.trace_types.specs.declared.event.KernelEvent.TheVariants.{Switch, Wakeup, WakeupNew, Waking, Fork, Free, Process, Lost}
use Rattle.trace_types.specs.declared.path.Path.TheVariants as path
use Rattle.trace_types.specs.declared.path.CpuLeaf.TheVariants as cpu_leaf
use Rattle.trace_types.specs.declared.value.Value.{Value}
use Rattle.trace_types.specs.declared.value.Value.TheVariants.{Int}
use Rattle.kernel_provider.specs.Replay.{nothing, put_all, replay}
use Rattle.kernel_provider.specs.Rules.{Values, assignments}
use Rattle.wait_graph.specs.declared.vertex.ThreadState.{ThreadState}
use Rattle.wait_graph.specs.declared.vertex.ThreadState.TheVariants.{Unknown, Running, Waiting, Blocked}

-- the values of all attributes before the event at a place of the merge
abbrev pub values_before : List Merged → ℕ → Values
values_before merged place = replay nothing (take place merged)

-- the tid of a value of a processor's thread; 0 is its idle thread
abbrev pub tid_of : Value → Option ℕ
tid_of (Int (pos tid)) = Some tid
tid_of value = None

-- the tid that runs on a processor by these values
abbrev pub tid_on : Values → ℕ → ℕ → Option ℕ
tid_on values host cpu = tid_of (values (path.Cpu host cpu cpu_leaf.Thread))

-- a thread that leaves its processor waits where the low 8 bits of its state are 0, and else is blocked
abbrev pub left_state : ℤ → ThreadState
left_state state = if cast_unsigned w64 state % 256 == 0 then Waiting else Blocked

-- a thread that is woken waits to run where it was blocked, or nothing was known of it
abbrev pub woken_state : ThreadState → ThreadState
woken_state Unknown = Waiting
woken_state Blocked = Waiting
woken_state old = old

-- what the tracer's dump tells of a thread of which nothing was known: 2 waits to run, 5 is blocked
abbrev pub found_state : ℕ → ThreadState → ThreadState
found_state status Unknown = if status == 2 then Waiting else if status == 5 then Blocked else Unknown
found_state status old = old

-- the state of a thread of this tid after an event of its host; tids are from 1
abbrev pub state_by : Option ℕ → ℕ → ThreadState → KernelEvent → ThreadState
state_by current tid old (Switch prev_state prev_tid next_tid prev_prio next_prio prev_comm next_comm) = if next_tid == tid then Running else if prev_tid == tid then left_state prev_state else old
state_by current tid old (Wakeup woken comm prio target_cpu) = if woken == tid then woken_state old else old
state_by current tid old (WakeupNew woken comm prio target_cpu) = if woken == tid then woken_state old else old
state_by current tid old (Waking woken comm prio target_cpu) = if woken == tid then woken_state old else old
state_by current tid old (Fork parent_tid child_tid child_comm) = if child_tid == tid then Waiting else old
state_by current tid old (Process found ppid name status) = if found == tid then found_state status old else old
state_by current tid old (Free freed) = if freed == tid then Unknown else old
state_by (Some running) tid old (Lost events gap) = if running == tid then Unknown else old
state_by None tid old (Lost events gap) = old
state_by current tid old kind = old

-- the state of a thread after an event, where these are the values before it
abbrev pub state_step : Values → ℕ → ℕ → ThreadState → Event → ThreadState
state_step values host tid old event = if event.host == host then state_by (tid_on values host event.cpu) tid old event.kind else old

-- the state after some events, from these values and this state on
abbrev pub states : Values → ℕ → ℕ → ThreadState → List Merged → ThreadState
states values host tid old [] = old
states values host tid old (m ∷ ms) = states (put_all values (assignments values m.event)) host tid (state_step values host tid old m.event) ms

-- the state of a thread after so many first events of the merge; before all it isn't known
abbrev pub state_after : List Merged → ℕ → ℕ → ℕ → ThreadState
state_after merged host tid count = states nothing host tid Unknown (take count merged)
