-- The critical path of a window: pieces that tile it, each as long as one holder stays (after Giraldeau and Dagenais 2016).
use Rattle.std.specs.Prelude.{ℕ, ◌≡◌, ◌≢◌, ◌<◌, ◌≤◌, All, List, [], ◌∷◌, ◌++◌, ◌⊎◌}
use Rattle.trace_types.specs.declared.event.Merged.{Merged}
use Rattle.host_merge.specs.declared.placed.Placed.{Placed}
use Rattle.critical_path.specs.Holder.{HoldsAt}
use Rattle.critical_path.specs.declared.piece.Holder.{Holder}
use Rattle.critical_path.specs.declared.piece.PathPiece.{PathPiece}

-- who holds the thread up in a piece
abbrev pub holder_of : PathPiece → Holder
holder_of piece = record { host = piece.host; tid = piece.tid; what = piece.what }

-- a piece that ends later
abbrev pub grown : PathPiece → ℕ → PathPiece
grown piece to = record { from = piece.from; to = to; host = piece.host; tid = piece.tid; what = piece.what }

-- the pieces tile a window: the first begins where it begins, each next one where the one before ends, and the last ends where it ends; none is empty
abbrev pub AreTiles : ℕ → ℕ → List PathPiece → Type 0
AreTiles from to [] = from ≡ to
AreTiles from to (piece ∷ pieces) = (piece.from ≡ from) × (piece.from < piece.to) × AreTiles piece.to to pieces

-- neighbours differ in who holds the thread up
abbrev pub NeighboursDiffer : List PathPiece → Type 0
NeighboursDiffer [] = Unit {0}
NeighboursDiffer (a ∷ []) = Unit {0}
NeighboursDiffer (a ∷ b ∷ pieces) = (holder_of a ≢ holder_of b) × NeighboursDiffer (b ∷ pieces)

-- the critical path of a thread over a window: at every instant of a piece its holder is the thread's
pub record IsCriticalPath (merged : List Merged) (placed : List Placed) (host tid from to : ℕ) (pieces : List PathPiece) : Type 0 where
  pub tiles : AreTiles from to pieces
  pub held : All (λ piece. (t : ℕ) → piece.from ≤ t → t < piece.to → HoldsAt merged placed host tid t (holder_of piece)) pieces
  pub differ : NeighboursDiffer pieces

-- the pieces that are done, and the open one, which ends at an instant; each is as it should be
pub record AreOpen (Held : PathPiece → Type 0) (from to : ℕ) (pieces : List PathPiece) (open_piece : PathPiece) : Type 0 where
  pub tiles : AreTiles from open_piece.from pieces
  pub held : All Held pieces
  pub open_held : Held open_piece
  pub begun : open_piece.from < open_piece.to
  pub within : open_piece.to ≤ to
  pub differ : NeighboursDiffer (pieces ++ open_piece ∷ [])

-- the open piece grows by the next one where one thread holds both; else it is done, and the next one is open
abbrev pub Advances : List PathPiece → PathPiece → PathPiece → List PathPiece → PathPiece → Type 0
Advances pieces last next new o =
    ((holder_of last ≡ holder_of next) × (new ≡ pieces) × (o ≡ grown last next.to)) ⊎ ((holder_of last ≢ holder_of next) × (new ≡ pieces ++ last ∷ []) × (o ≡ next))
