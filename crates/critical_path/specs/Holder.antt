-- Who holds a thread up at a place of a merge: the thread itself, or whom it waits for, as long as that lasts (after Giraldeau and Dagenais 2016).
use Rattle.std.specs.Prelude.{ℕ, zero, suc, ◌≡◌, ◌<◌, ◌≤◌, ◌+◌, ◌⊎◌, List, length, map}
use Rattle.trace_types.specs.declared.event.Merged.{Merged}
use Rattle.host_merge.specs.declared.placed.Placed.{Placed}
use Rattle.wait_graph.specs.States.{state_after}
use Rattle.wait_graph.specs.Links.{IsLinkAt}
use Rattle.wait_graph.specs.Graph.{IsChange, IsLastAt}
use Rattle.wait_graph.specs.declared.vertex.ThreadState.{ThreadState}
use Rattle.wait_graph.specs.declared.vertex.ThreadState.TheVariants as state
use Rattle.wait_graph.specs.declared.vertex.Link.{Link}
use Rattle.wait_graph.specs.declared.vertex.Link.TheVariants as link
use Rattle.critical_path.specs.declared.piece.What.{What}
use Rattle.critical_path.specs.declared.piece.What.TheVariants.{Running, Waiting, Unknown, Timer, Disk, Interrupt, Nobody, Transit}
use Rattle.critical_path.specs.declared.piece.Holder.{Holder}

-- the thread's state changes next, after a place, at this one
pub record ChangesNextAt (merged : List Merged) (host tid place end : ℕ) : Type 0 where
  pub after : place < end
  pub changes : IsChange merged host tid end
  pub next : (between : ℕ) → place < between → between < end → ¬ IsChange merged host tid between

-- a wait that is on at a place ends by the limit, at this place
pub record EndsBy (merged : List Merged) (host tid place limit end : ℕ) : Type 0 where
  pub next : ChangesNextAt merged host tid place end
  pub within : end ≤ limit

-- this thread holds itself up, and this is what it does or waits for
abbrev pub holds : ℕ → ℕ → What → Holder
holds host tid what = record { host = host; tid = tid; what = what }

module _ (merged : List Merged) (placed : List Placed) where
  -- whom a wait is followed to: the waker up to the end of the wait; a sender up to its send, and from then on the message is in transit; a wait for no thread is followed no further. `More` says who holds the next thread up
  abbrev pub IsFollowed : (ℕ → ℕ → ℕ → ℕ → Holder → Type 0) → ℕ → ℕ → ℕ → ℕ → Link → Holder → Type 0
  IsFollowed More host tid place end (link.Thread waker_host waker) h = More waker_host waker place end h
  IsFollowed More host tid place end (link.Net sender_host sender send) h = ((place < send) × More sender_host sender place send h) ⊎ ((send ≤ place) × (h ≡ holds host tid Transit))
  IsFollowed More host tid place end link.Timer h = h ≡ holds host tid Timer
  IsFollowed More host tid place end link.Disk h = h ≡ holds host tid Disk
  IsFollowed More host tid place end link.Interrupt h = h ≡ holds host tid Interrupt
  IsFollowed More host tid place end link.Nobody h = h ≡ holds host tid Nobody
  IsFollowed More host tid place end link.Nothing h = ⊥

  -- who holds a blocked thread up: nobody knows where its wait doesn't end by the limit; else whom the wait is followed to
  abbrev pub HoldsBlocked : (ℕ → ℕ → ℕ → ℕ → Holder → Type 0) → ℕ → ℕ → ℕ → ℕ → Holder → Type 0
  HoldsBlocked More host tid place limit h =
      (((end : ℕ) → ¬ EndsBy merged host tid place limit end) × (h ≡ holds host tid Unknown))
      ⊎ ((end : ℕ) × (l : Link) × EndsBy merged host tid place limit end × IsLinkAt merged placed host tid end l × IsFollowed More host tid place end l h)

  -- who holds a thread up, by its state after the place
  abbrev pub HoldsByState : (ℕ → ℕ → ℕ → ℕ → Holder → Type 0) → ThreadState → ℕ → ℕ → ℕ → ℕ → Holder → Type 0
  HoldsByState More state.Running host tid place limit h = h ≡ holds host tid Running
  HoldsByState More state.Waiting host tid place limit h = h ≡ holds host tid Waiting
  HoldsByState More state.Unknown host tid place limit h = h ≡ holds host tid Unknown
  HoldsByState More state.Blocked host tid place limit h = HoldsBlocked More host tid place limit h

  -- who holds a thread up after a place and up to a limit, over at most so many waits for others
  abbrev pub HoldsBy : ℕ → ℕ → ℕ → ℕ → ℕ → Holder → Type 0
  HoldsBy zero host tid place limit h = HoldsByState (λ _ _ _ _ _. ⊥) (state_after merged host tid (place + 1)) host tid place limit h
  HoldsBy (suc waits) host tid place limit h = HoldsByState (HoldsBy waits) (state_after merged host tid (place + 1)) host tid place limit h

  -- who holds a thread up at an instant: by the last event at or before it, up to the end of the merge; before all events nobody knows
  abbrev pub HoldsAt : ℕ → ℕ → ℕ → Holder → Type 0
  HoldsAt host tid t h =
      ((place : ℕ) × (waits : ℕ) × IsLastAt (map (λ m. m.key) merged) t place × HoldsBy waits host tid place (length merged) h)
      ⊎ (((place : ℕ) → ¬ IsLastAt (map (λ m. m.key) merged) t place) × (h ≡ holds host tid Unknown))
