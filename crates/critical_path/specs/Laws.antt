-- Laws of holders and of critical paths (this project's own).
use Rattle.std.specs.Prelude.{ℕ, ◌≡◌, List}
use Rattle.trace_types.specs.declared.event.Merged.{Merged}
use Rattle.host_merge.specs.declared.placed.Placed.{Placed}
use Rattle.wait_graph.specs.Graph.{IsMergeWithMessages}
use Rattle.critical_path.specs.Holder.{HoldsAt}
use Rattle.critical_path.specs.Pieces.{IsCriticalPath}
use Rattle.critical_path.specs.declared.piece.Holder.{Holder}
use Rattle.critical_path.specs.declared.piece.PathPiece.{PathPiece}

-- at each instant one holder at most holds a thread up
abbrev pub HaveOneHolder : Type 0
HaveOneHolder = (merged : List Merged) (placed : List Placed) → IsMergeWithMessages merged placed → (host tid t : ℕ) (h k : Holder) → HoldsAt merged placed host tid t h → HoldsAt merged placed host tid t k → h ≡ k

-- a thread has one critical path at most over a window
abbrev pub HaveOnePath : Type 0
HaveOnePath = (merged : List Merged) (placed : List Placed) → IsMergeWithMessages merged placed → (host tid from to : ℕ) (a b : List PathPiece) → IsCriticalPath merged placed host tid from to a → IsCriticalPath merged placed host tid from to b → a ≡ b

-- somebody holds each thread up at each instant
abbrev pub SomebodyHolds : Type 0
SomebodyHolds = (merged : List Merged) (placed : List Placed) → IsMergeWithMessages merged placed → (host tid t : ℕ) → (h : Holder) × HoldsAt merged placed host tid t h
