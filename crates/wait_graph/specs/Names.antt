-- The names of threads, as they are gathered (this project's own).
use Rattle.std.specs.Prelude.{ℕ, ◌≡◌, ◌<◌, ◌↔◌, ◌⊎◌, Bool, true, IsTrue, Option, None, Some, List, slice_get}
use Rattle.std.specs.List.{list_any}
use Rattle.trace_types.specs.declared.event.Merged.{Merged}
use Rattle.trace_types.specs.declared.event.KernelEvent.{KernelEvent}
use Rattle.trace_types.specs.declared.event.KernelEvent.TheVariants.{Switch, Wakeup, WakeupNew, Waking, Fork, Exit, Free, Migrate, Process}
use Rattle.wait_graph.specs.declared.named.ThreadName.{ThreadName}
use Rattle.wait_graph.specs.Changes.{same_thread}
use Rattle.wait_graph.specs.Named.{is_named_by}

-- the tids in an event's fields
abbrev pub names_of : KernelEvent → Option ℕ × Option ℕ
names_of (Switch prev_state prev_tid next_tid prev_prio next_prio prev_comm next_comm) = (Some prev_tid, Some next_tid)
names_of (Wakeup woken comm prio target_cpu) = (Some woken, None)
names_of (WakeupNew woken comm prio target_cpu) = (Some woken, None)
names_of (Waking woken comm prio target_cpu) = (Some woken, None)
names_of (Fork parent_tid child_tid child_comm) = (Some parent_tid, Some child_tid)
names_of (Exit ended) = (Some ended, None)
names_of (Free freed) = (Some freed, None)
names_of (Migrate moved dest_cpu) = (Some moved, None)
names_of (Process found ppid name status) = (Some found, Some ppid)
names_of kind = (None, None)

-- the set holds the name
abbrev pub is_held : List ThreadName → ℕ → ℕ → Bool
is_held names host tid = list_any (same_thread (record { host = host; tid = tid })) names

-- one more name, if there is one
abbrev pub NotesName : ℕ → Option ℕ → List ThreadName → List ThreadName → Type 0
NotesName host named old new = (h t : ℕ) → (is_held new h t ≡ true) ↔ ((is_held old h t ≡ true) ⊎ ((host ≡ h) × (named ≡ Some t)))

-- the names of one event
abbrev pub NotesNames : ℕ → KernelEvent → List ThreadName → List ThreadName → Type 0
NotesNames host kind old new = (h t : ℕ) → (is_held new h t ≡ true) ↔ ((is_held old h t ≡ true) ⊎ ((host ≡ h) × IsTrue (is_named_by t kind)))

-- an event of the host before this place names the tid
pub record IsNamedBelow (merged : List Merged) (below host tid : ℕ) : Type 0 where
  pub place : ℕ
  pub event : Merged
  pub there : slice_get merged place ≡ Some event
  pub before : place < below
  pub of_host : event.event.host ≡ host
  pub by : IsTrue (is_named_by tid event.event.kind)
