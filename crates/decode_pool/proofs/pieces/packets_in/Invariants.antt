use Rattle.std.proofs.Common.{◌≡◌, ◌+◌, drop}
use Rattle.decode_pool.specs.Limits.{packets_in}
use Rattle.decode_pool.proofs.pieces.packets_in.Given as goal

abbrev pub invariant-loop-piece : goal.invariant-loop-piece
invariant-loop-piece l = l.count + packets_in (drop l.piece-index l.pieces) ≡ packets_in l.pieces
