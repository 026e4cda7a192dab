-- One step of the way to who holds a thread up, and one piece of a path (this project's own).
use Rattle.std.specs.Prelude.{ℕ, ◌≡◌, ◌≢◌, ◌<◌, ◌≤◌, ◌+◌, false, Option, None, Some, List, length, slice_get}
use Rattle.trace_types.specs.declared.event.Merged.{Merged}
use Rattle.host_merge.specs.declared.placed.Placed.{Placed}
use Rattle.wait_graph.specs.States.{state_after}
use Rattle.wait_graph.specs.Links.{IsLinkAt, wakes}
use Rattle.wait_graph.specs.Graph.{AreMessagePlaces, HasLink, HoldsPlace, IsGraphOf, IsLastAt, IsMergeWithMessages, IsStretch, WaitGraph}
use Rattle.wait_graph.specs.declared.vertex.ThreadState.TheVariants.{Blocked}
use Rattle.wait_graph.specs.declared.vertex.Link.{Link}
use Rattle.wait_graph.specs.declared.vertex.Link.TheVariants.{Net}
use Rattle.wait_graph.specs.declared.vertex.Vertex.{Vertex}
use Rattle.critical_path.specs.Holder.{holds, EndsBy, HoldsAt, HoldsBy}
use Rattle.critical_path.specs.Pieces.{holder_of}
use Rattle.critical_path.specs.declared.piece.What.TheVariants.{Unknown}
use Rattle.critical_path.specs.declared.piece.Holder.{Holder}
use Rattle.critical_path.specs.declared.piece.PathPiece.{PathPiece}
use Rattle.critical_path.specs.declared.holder.Followed.{Followed}
use Rattle.critical_path.specs.declared.holder.Next.{Next}
use Rattle.critical_path.specs.declared.holder.Next.TheVariants.{Held, Waits}

-- it holds of every merge with messages of which this is the graph
abbrev pub ForMerges : WaitGraph → (List Merged → List Placed → Type 0) → Type 0
ForMerges graph P = (merged : List Merged) (placed : List Placed) → IsMergeWithMessages merged placed → IsGraphOf merged placed graph → P merged placed

-- the event at a place, if there is one, doesn't wake the thread of this tid
abbrev pub WakesNot : List Merged → ℕ → ℕ → Type 0
WakesNot merged tid place = (event : Merged) → slice_get merged place ≡ Some event → wakes tid event.event.kind ≡ false

module _ (merged : List Merged) (placed : List Placed) where
  -- who holds a thread up after a place and up to a limit, over any number of waits for others
  abbrev pub HasHolder : ℕ → ℕ → ℕ → ℕ → Holder → Type 0
  HasHolder host tid place limit h = (waits : ℕ) × HoldsBy merged placed waits host tid place limit h

  module _ (place : ℕ) (followed : Followed) where
    -- who holds the next thread up holds the followed one up; the next has a lower limit, where no event wakes it
    pub record FollowsOn (next : Followed) : Type 0 where
      pub held : (h : Holder) → HasHolder next.host next.tid place next.limit h → HasHolder followed.host followed.tid place followed.limit h
      pub is_thread : next.tid ≢ 0
      pub falls : WakesNot merged followed.tid followed.limit → next.limit < followed.limit
      pub unwoken : WakesNot merged next.tid next.limit

    -- one step: either somebody holds the followed thread up, or another thread is followed next
    abbrev pub IsNext : Next → Type 0
    IsNext (Held h) = HasHolder followed.host followed.tid place followed.limit h
    IsNext (Waits next) = FollowsOn next

    -- the vertex is the followed thread's stretch at the place
    pub record IsFollowedBy (v : Vertex) : Type 0 where
      pub messages : AreMessagePlaces merged placed
      pub stretch : IsStretch merged v
      pub has_link : HasLink merged placed v
      pub of_host : v.host ≡ followed.host
      pub of_tid : v.tid ≡ followed.tid
      pub is_on : HoldsPlace v place
      pub now : state_after merged followed.host followed.tid (place + 1) ≡ v.state

    -- the followed thread's wait ends by its limit at this place, and this ended it
    pub record IsWaitBy (end : ℕ) (link : Link) : Type 0 where
      pub messages : AreMessagePlaces merged placed
      pub now : state_after merged followed.host followed.tid (place + 1) ≡ Blocked
      pub ends : EndsBy merged followed.host followed.tid place followed.limit end
      pub ended_by : IsLinkAt merged placed followed.host followed.tid end link

  -- on the way from a thread: who holds the followed thread up holds that thread up, and no event wakes the followed one at its limit
  pub record LeadsTo (host tid place : ℕ) (followed : Followed) : Type 0 where
    pub held : (h : Holder) → HasHolder followed.host followed.tid place followed.limit h → HasHolder host tid place (length merged) h
    pub is_thread : followed.tid ≢ 0
    pub unwoken : WakesNot merged followed.tid followed.limit

  -- who holds a thread up after each place from one on and before another; before all places nobody knows
  abbrev pub HoldsAfter : ℕ → ℕ → Option ℕ → ℕ → Holder → Type 0
  HoldsAfter host tid None until h = h ≡ holds host tid Unknown
  HoldsAfter host tid (Some place) until h = (p : ℕ) → place ≤ p → p < until → HasHolder host tid p (length merged) h

-- the link is to no message that is sent after the first place and by the second
abbrev pub IsUnsent : ℕ → ℕ → Link → Type 0
IsUnsent place p (Net host tid send) = place < send → p < send
IsUnsent place p link = Unit {0}

-- a place isn't after the end of a stretch, nor after that of the merge
abbrev pub IsWithin : Option ℕ → ℕ → ℕ → Type 0
IsWithin None events until = until ≤ events
IsWithin (Some end) events until = until ≤ end

-- a place after another, or the first after none
abbrev pub IsUntil : Option ℕ → ℕ → Type 0
IsUntil None until = until ≡ 0
IsUntil (Some place) until = place < until

-- the last place whose key is at or before an instant, or none
abbrev pub IsPlaceAt : List ℕ → ℕ → Option ℕ → Type 0
IsPlaceAt keys t None = (place : ℕ) → ¬ IsLastAt keys t place
IsPlaceAt keys t (Some place) = IsLastAt keys t place

-- that place is from one on and before another, or there is none where there was none
abbrev pub IsPlaceFrom : List ℕ → ℕ → Option ℕ → ℕ → Type 0
IsPlaceFrom keys t None until = (place : ℕ) → ¬ IsLastAt keys t place
IsPlaceFrom keys t (Some place) until = (p : ℕ) × (place ≤ p) × (p < until) × IsLastAt keys t p

-- at every instant of a piece its holder is the thread's
abbrev pub IsHeld : WaitGraph → ℕ → ℕ → PathPiece → Type 0
IsHeld graph host tid piece = (t : ℕ) → piece.from ≤ t → t < piece.to → ForMerges graph (λ merged placed. HoldsAt merged placed host tid t (holder_of piece))
