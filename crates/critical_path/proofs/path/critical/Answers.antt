use Rattle.std.proofs.lemmas.List.Elements.{All-weaker}
use Rattle.critical_path.specs.Steps.{IsHeld}
use Rattle.critical_path.specs.Holder.{HoldsAt}
use Rattle.critical_path.specs.Pieces.{holder_of}
use Rattle.critical_path.specs.declared.piece.PathPiece.{PathPiece}
use Rattle.std.proofs.Common.{◌<◌, ◌≤◌, ℕ}
use Rattle.critical_path.proofs.path.critical.Goals as goal

pub returns-clause-path : goal.returns-clause-path
returns-clause-path c = λ merged placed is graph_is. record {
  tiles = c.in_ok-pieces.ensures.tiles;
  held = All-weaker (IsHeld c.args.graph.now c.args.host c.args.tid) (λ (piece : PathPiece). (t : ℕ) → piece.from ≤ t → t < piece.to → HoldsAt merged placed c.args.host c.args.tid t (holder_of piece))
      (λ piece held t low high. held t low high merged placed is graph_is) c.in_ok-pieces.field-0.items c.in_ok-pieces.ensures.held;
  differ = c.in_ok-pieces.ensures.differ;
}
