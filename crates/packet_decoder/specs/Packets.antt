-- How many packets there are among pieces (this project's own).
use Rattle.std.specs.Prelude.{ℕ, ◌+◌, List, [], ◌∷◌}
use Rattle.packet_decoder.specs.declared.piece.Piece.{Piece}
use Rattle.packet_decoder.specs.declared.piece.Piece.TheVariants as piece

-- packets, accepted or refused one by one; the rest of a file that can't be cut is none
abbrev pub packets_in : List Piece → ℕ
packets_in [] = 0
packets_in (piece.Packet span ∷ ps) = 1 + packets_in ps
packets_in (piece.Bad offset cause ∷ ps) = packets_in ps
