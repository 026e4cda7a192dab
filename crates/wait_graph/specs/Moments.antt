-- What the processors do before each event of a merge (this project's own).
use Rattle.std.specs.Prelude.{ℕ, pos, ◌≡◌, ◌<◌, Bool, false, if◌then◌else◌, IfSome, IfNone, Option, None, Some, List, length, slice_get}
use Rattle.std.specs.Map.{lookup}
use Rattle.trace_types.specs.declared.event.Event.{Event}
use Rattle.trace_types.specs.declared.event.Merged.{Merged}
use Rattle.trace_types.specs.declared.event.KernelEvent.{KernelEvent}
use Rattle.trace_types.specs.declared.event.KernelEvent.TheVariants.{Switch, IrqIn, IrqOut, SoftIn, SoftOut, Lost}
use Rattle.trace_types.specs.declared.path.Path.TheVariants as path
use Rattle.trace_types.specs.declared.path.CpuLeaf.TheVariants as cpu_leaf
use Rattle.trace_types.specs.declared.value.Value.{Value}
use Rattle.trace_types.specs.declared.value.Value.TheVariants.{Null, Int}
use Rattle.host_merge.specs.declared.placed.Placed.{Placed}
use Rattle.wait_graph.specs.States.{values_before}
use Rattle.wait_graph.specs.Links.{IsReceived, IsLastReceived}
use Rattle.wait_graph.specs.declared.moment.Moment.{Moment}
use Rattle.wait_graph.specs.declared.moment.CpuName.{CpuName}
use Rattle.wait_graph.specs.contracts.moment.CpuNamePartialEq.TheImpl as cpu_name

-- the attribute's value that a number stands for
abbrev pub value_of : Option ℕ → Value
value_of None = Null
value_of (Some n) = Int (pos n)

-- the last matched receive since the last soft interrupt began
abbrev pub receive_by : Option ℕ → KernelEvent → Option ℕ
receive_by old (SoftIn vec) = None
receive_by old kind = old

abbrev pub receive_after : Option ℕ → KernelEvent → ℕ → Bool → Option ℕ
receive_after old kind place matched = if matched then Some place else receive_by old kind

-- a processor's moment after an event there
abbrev pub moment_after : Moment → KernelEvent → ℕ → Bool → Moment
moment_after m (Switch prev_state prev_tid next_tid prev_prio next_prio prev_comm next_comm) place matched =
    record { thread = Some next_tid; irq = m.irq; softirq = m.softirq; receive = receive_after m.receive (Switch prev_state prev_tid next_tid prev_prio next_prio prev_comm next_comm) place matched }
moment_after m (IrqIn irq) place matched = record { thread = m.thread; irq = Some irq; softirq = m.softirq; receive = receive_after m.receive (IrqIn irq) place matched }
moment_after m (IrqOut irq) place matched = record { thread = m.thread; irq = None; softirq = m.softirq; receive = receive_after m.receive (IrqOut irq) place matched }
moment_after m (SoftIn vec) place matched = record { thread = m.thread; irq = m.irq; softirq = Some vec; receive = receive_after m.receive (SoftIn vec) place matched }
moment_after m (SoftOut vec) place matched = record { thread = m.thread; irq = m.irq; softirq = None; receive = receive_after m.receive (SoftOut vec) place matched }
moment_after m (Lost events gap) place matched = record { thread = None; irq = None; softirq = None; receive = receive_after m.receive (Lost events gap) place matched }
moment_after m kind place matched = record { thread = m.thread; irq = m.irq; softirq = m.softirq; receive = receive_after m.receive kind place matched }

-- when two processors count as one
abbrev pub same_cpu : CpuName → CpuName → Bool
same_cpu = cpu_name.ghosts.eq

-- a processor of which nothing is known
abbrev pub unknown_moment : Moment
unknown_moment = record { thread = None; irq = None; softirq = None; receive = None }

-- an option's value, or this one
abbrev pub or_else : {X : Type 0} → X → Option X → X
or_else x None = x
or_else x (Some y) = y

-- a processor's moment in a table
abbrev pub moment_in : List (CpuName × Moment) → CpuName → Moment
moment_in cpus name = or_else unknown_moment (lookup (same_cpu name) cpus)

-- for each place where a matched message was received after its send, the place of the send
pub record AreSends (merged : List Merged) (placed : List Placed) (sends : List (Option ℕ)) : Type 0 where
  pub count : length sends ≡ length merged
  pub some : (receive send : ℕ) → slice_get sends receive ≡ Some (Some send) → (send < receive) × ((k : ℕ) × (slice_get placed k ≡ Some (record { send = send; receive = receive })))
  pub all : (k receive send : ℕ) → slice_get placed k ≡ Some (record { send = send; receive = receive }) → send < receive → slice_get sends receive ≡ Some (Some send)

-- the same of the first so many messages
pub record AreSendsSoFar (merged : List Merged) (placed : List Placed) (count : ℕ) (sends : List (Option ℕ)) : Type 0 where
  pub places : length sends ≡ length merged
  pub some : (receive send : ℕ) → slice_get sends receive ≡ Some (Some send) → (send < receive) × ((k : ℕ) × (slice_get placed k ≡ Some (record { send = send; receive = receive })))
  pub all : (k receive send : ℕ) → k < count → slice_get placed k ≡ Some (record { send = send; receive = receive }) → send < receive → slice_get sends receive ≡ Some (Some send)

module _ (merged : List Merged) where
  -- the processor does this before the event at a place
  pub record IsMoment (place host cpu : ℕ) (m : Moment) : Type 0 where
    pub thread : values_before merged place (path.Cpu host cpu cpu_leaf.Thread) ≡ value_of m.thread
    pub irq : values_before merged place (path.Cpu host cpu cpu_leaf.Irq) ≡ value_of m.irq
    pub softirq : values_before merged place (path.Cpu host cpu cpu_leaf.Softirq) ≡ value_of m.softirq

  -- each event has what its processor does before it
  pub record HaveValues (moments : List Moment) : Type 0 where
    pub count : length moments ≡ length merged
    pub values : (place : ℕ) (e : Merged) (m : Moment) → slice_get merged place ≡ Some e → slice_get moments place ≡ Some m → IsMoment place e.event.host e.event.cpu m

module _ (merged : List Merged) (placed : List Placed) where
  -- and this is the last matched message that it received
  pub record HasReceived (place host cpu : ℕ) (receive : Option ℕ) : Type 0 where
    pub some : IfSome receive (λ r. (send : ℕ) × IsLastReceived merged placed host cpu place r send)
    pub none : IfNone receive ((r send : ℕ) → ¬ IsReceived merged placed host cpu place r send)

  -- the moments of the events' processors before each event
  pub record AreMoments (moments : List Moment) : Type 0 where
    pub values : HaveValues merged moments
    pub receives : (place : ℕ) (e : Merged) (m : Moment) → slice_get merged place ≡ Some e → slice_get moments place ≡ Some m → HasReceived place e.event.host e.event.cpu m.receive

-- one event: the moment of its processor before it, and the table of moments after it
pub record StepsTo (event : Event) (place : ℕ) (matched : Bool) (old : List (CpuName × Moment)) (before : Moment) (new : List (CpuName × Moment)) : Type 0 where
  pub told : before ≡ moment_in old (record { host = event.host; cpu = event.cpu })
  pub here : moment_in new (record { host = event.host; cpu = event.cpu }) ≡ moment_after before event.kind place matched
  pub elsewhere : (name : CpuName) → same_cpu name (record { host = event.host; cpu = event.cpu }) ≡ false → moment_in new name ≡ moment_in old name

-- the table of moments before the event at a place
pub record AreAt (merged : List Merged) (placed : List Placed) (place : ℕ) (cpus : List (CpuName × Moment)) : Type 0 where
  pub values : (host cpu : ℕ) → IsMoment merged place host cpu (moment_in cpus (record { host = host; cpu = cpu }))
  pub receives : (host cpu : ℕ) → HasReceived merged placed place host cpu ((moment_in cpus (record { host = host; cpu = cpu })).receive)

-- the moments of the first events, and the table after them
pub record ArePassed (merged : List Merged) (placed : List Placed) (place : ℕ) (cpus : List (CpuName × Moment)) (moments : List Moment) : Type 0 where
  pub at : AreAt merged placed place cpus
  pub count : length moments ≡ place
  pub values : (p : ℕ) (e : Merged) (m : Moment) → slice_get merged p ≡ Some e → slice_get moments p ≡ Some m → IsMoment merged p e.event.host e.event.cpu m
  pub receives : (p : ℕ) (e : Merged) (m : Moment) → slice_get merged p ≡ Some e → slice_get moments p ≡ Some m → HasReceived merged placed p e.event.host e.event.cpu m.receive
