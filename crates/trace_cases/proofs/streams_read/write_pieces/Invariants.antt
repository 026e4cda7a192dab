use Rattle.std.proofs.Common.{drop}
use Rattle.packet_decoder.specs.Pieces.{AllLieIn}
use Rattle.trace_cases.proofs.streams_read.write_pieces.Given as goal

abbrev pub invariant-loop-piece : goal.invariant-loop-piece
invariant-loop-piece l = AllLieIn l.file (drop l.piece-index l.pieces)
