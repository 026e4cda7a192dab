-- The changes of threads' states, as they are found and sorted (this project's own).
use Rattle.std.specs.Prelude.{ℕ, ◌≡◌, ◌≢◌, ◌<◌, ◌≤◌, ◌+◌, ◌*◌, ◌^◌, ◌⊎◌, Bool, Option, Some, List, [], ◌∷◌, ◌++◌, length, slice_get}
use Rattle.std.specs.Map.{lookup}
use Rattle.trace_types.specs.declared.event.Event.{Event}
use Rattle.trace_types.specs.declared.event.Merged.{Merged}
use Rattle.trace_types.specs.declared.event.KernelEvent.{KernelEvent}
use Rattle.trace_types.specs.declared.event.KernelEvent.TheVariants.{Switch, Wakeup, WakeupNew, Waking, Fork, Free, Process, Lost}
use Rattle.wait_graph.specs.declared.vertex.ThreadState.{ThreadState}
use Rattle.wait_graph.specs.declared.vertex.ThreadState.TheVariants.{Unknown}
use Rattle.wait_graph.specs.declared.named.ThreadName.{ThreadName}
use Rattle.wait_graph.specs.declared.change.Change.{Change}
use Rattle.wait_graph.specs.contracts.named.ThreadNamePartialEq.TheImpl as thread_name
use Rattle.wait_graph.specs.Moments.{or_else}
use Rattle.wait_graph.specs.States.{state_after, state_by, tid_on, values_before}
use Rattle.wait_graph.specs.Graph.{IsChange}

-- the tids of which an event may change the states; 0 where there is none
abbrev pub touched : Option ℕ → KernelEvent → ℕ × ℕ
touched current (Switch prev_state prev_tid next_tid prev_prio next_prio prev_comm next_comm) = (next_tid, prev_tid)
touched current (Wakeup tid comm prio target_cpu) = (tid, 0)
touched current (WakeupNew tid comm prio target_cpu) = (tid, 0)
touched current (Waking tid comm prio target_cpu) = (tid, 0)
touched current (Fork parent_tid child_tid child_comm) = (child_tid, 0)
touched current (Process tid ppid name status) = (tid, 0)
touched current (Free tid) = (tid, 0)
touched current (Lost events gap) = (or_else 0 current, 0)
touched current kind = (0, 0)

-- where a thread and a place stand in the order by host, tid and place, each below 2 ^ 32
abbrev pub order_of : ℕ → ℕ → ℕ → ℕ
order_of host tid place = (host * 2 ^ 32 + tid) * 2 ^ 32 + place

-- when two threads count as one
abbrev pub same_thread : ThreadName → ThreadName → Bool
same_thread = thread_name.ghosts.eq

-- a thread's state in a table
abbrev pub state_in : List (ThreadName × ThreadState) → ℕ → ℕ → ThreadState
state_in threads host tid = or_else Unknown (lookup (same_thread (record { host = host; tid = tid })) threads)

-- the table has the states of all threads after so many events
abbrev pub AreStates : List Merged → ℕ → List (ThreadName × ThreadState) → Type 0
AreStates merged count threads = (host tid : ℕ) → tid ≢ 0 → state_in threads host tid ≡ state_after merged host tid count

-- a change is one of a thread of the merge
pub record IsChangeOf (merged : List Merged) (c : Change) : Type 0 where
  pub is_thread : c.tid ≢ 0
  pub changes : IsChange merged c.host c.tid c.place
  pub state : c.state ≡ state_after merged c.host c.tid (c.place + 1)
  pub tid_fits : c.tid < 2 ^ 32

-- these are all changes that were reached, by host, tid and place, each once
pub record AreChangesIn (merged : List Merged) (Reached : ℕ → ℕ → ℕ → Type 0) (changes : List Change) : Type 0 where
  pub sound : (k : ℕ) (c : Change) → slice_get changes k ≡ Some c → IsChangeOf merged c × Reached c.host c.tid c.place
  pub all : (host tid place : ℕ) → tid ≢ 0 → Reached host tid place → IsChange merged host tid place → (k : ℕ) × ((c : Change) × ((slice_get changes k ≡ Some c) × ((c.host ≡ host) × ((c.tid ≡ tid) × (c.place ≡ place)))))
  pub once : (j k : ℕ) (c d : Change) → slice_get changes j ≡ Some c → slice_get changes k ≡ Some d → c.host ≡ d.host → c.tid ≡ d.tid → c.place ≡ d.place → j ≡ k

-- those below a place
abbrev pub AreChanges : List Merged → ℕ → List Change → Type 0
AreChanges merged below changes = AreChangesIn merged (λ host tid place. place < below) changes

-- one thread's state after an event, and the change, if it is one
pub record TouchesTo (place : ℕ) (event : Event) (current : Option ℕ) (tid : ℕ) (threads : List (ThreadName × ThreadState)) (changes : List Change) (threads_after : List (ThreadName × ThreadState)) (changes_after : List Change) : Type 0 where
  pub fits : tid < 2 ^ 32
  pub here : tid ≢ 0 → state_in threads_after event.host tid ≡ state_by current tid (state_in threads event.host tid) event.kind
  pub elsewhere : (host other : ℕ) → (host ≡ event.host → other ≡ tid → ⊥) → state_in threads_after host other ≡ state_in threads host other
  pub changed : tid ≢ 0 → state_in threads_after event.host tid ≢ state_in threads event.host tid → changes_after ≡ changes ++ record { host = event.host; tid = tid; place = place; state = state_in threads_after event.host tid } ∷ []
  pub idle : ((tid ≡ 0) ⊎ (state_in threads_after event.host tid ≡ state_in threads event.host tid)) → changes_after ≡ changes

-- all threads' states after the event at a place, and the changes up to it
pub record NotesTo (place : ℕ) (event : Event) (current : Option ℕ) (threads : List (ThreadName × ThreadState)) (changes : List Change) (threads_after : List (ThreadName × ThreadState)) (changes_after : List Change) : Type 0 where
  pub states : (merged : List Merged) (e : Merged) → slice_get merged place ≡ Some e → e.event ≡ event → tid_on (values_before merged place) event.host event.cpu ≡ current → AreStates merged place threads → AreStates merged (place + 1) threads_after
  pub noted : (merged : List Merged) (e : Merged) → slice_get merged place ≡ Some e → e.event ≡ event → tid_on (values_before merged place) event.host event.cpu ≡ current → AreStates merged place threads → AreChanges merged place changes → AreChanges merged (place + 1) changes_after
  pub few : length changes_after ≤ length changes + 2

-- where a change stands in the order by host, tid and place
abbrev pub change_order : Change → ℕ
change_order c = order_of c.host c.tid c.place
