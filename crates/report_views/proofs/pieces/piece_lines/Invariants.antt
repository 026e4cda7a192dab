use Rattle.std.proofs.Common.{◌≡◌, take}
use Rattle.std.specs.Prelude.{flat_map}
use Rattle.report_views.specs.Pieces.{piece_line}
use Rattle.report_views.proofs.pieces.piece_lines.Given as goal

abbrev pub invariant-loop-piece : goal.invariant-loop-piece
invariant-loop-piece l = l.text.items ≡ flat_map piece_line (take l.piece-index l.pieces)
