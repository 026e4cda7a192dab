-- Which threads events name (this project's own).
use Rattle.std.specs.Prelude.{ℕ, ◌≡◌, ◌==◌, ◌||◌, Bool, false, IsTrue, Some, List, slice_get}
use Rattle.trace_types.specs.declared.event.Merged.{Merged}
use Rattle.trace_types.specs.declared.event.KernelEvent.{KernelEvent}
use Rattle.trace_types.specs.declared.event.KernelEvent.TheVariants.{Switch, Wakeup, WakeupNew, Waking, Fork, Exit, Free, Migrate, Process}

-- whether one of the event's fields holds the tid
abbrev pub is_named_by : ℕ → KernelEvent → Bool
is_named_by tid (Switch prev_state prev_tid next_tid prev_prio next_prio prev_comm next_comm) = (prev_tid == tid) || (next_tid == tid)
is_named_by tid (Wakeup woken comm prio target_cpu) = woken == tid
is_named_by tid (WakeupNew woken comm prio target_cpu) = woken == tid
is_named_by tid (Waking woken comm prio target_cpu) = woken == tid
is_named_by tid (Fork parent_tid child_tid child_comm) = (parent_tid == tid) || (child_tid == tid)
is_named_by tid (Exit ended) = ended == tid
is_named_by tid (Free freed) = freed == tid
is_named_by tid (Migrate moved dest_cpu) = moved == tid
is_named_by tid (Process found ppid name status) = (found == tid) || (ppid == tid)
is_named_by tid kind = false

-- an event of the host names the tid
pub record IsNamed (merged : List Merged) (host tid : ℕ) : Type 0 where
  pub place : ℕ
  pub event : Merged
  pub there : slice_get merged place ≡ Some event
  pub of_host : event.event.host ≡ host
  pub by : IsTrue (is_named_by tid event.event.kind)
